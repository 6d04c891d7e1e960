use Rattle.std.proofs.Common.{◌-◌, List, ℕ, drop, length, subst, take}
use Rattle.std.proofs.lemmas.List.{take_rest}
use Rattle.desk_book.proofs.ReadAgain.{changed, lost, read_more}
use Rattle.desk_book.specs.declared.replaying.Taken.{Taken}
use Rattle.desk_book.specs.declared.replaying.Taken.TheVariants as taken
use Rattle.desk_book.specs.inside.Reading.{IsEntryTaken}
use Rattle.desk_book.proofs.replaying.take_entries.Goals as goal

pub entries-preserved : goal.entries-preserved
entries-preserved g c =
    let bytes : List ℕ = c.args.bytes.now in
    let at : ℕ = c.entries.at in
    let n = c.take_entry.new.self in
    let rest : List ℕ = take (length bytes - at) (drop at bytes) in
    let was : IsEntryTaken c.entries.desk rest (taken.Entry c.in-Entry.len) n =
    subst (λ (t : Taken). IsEntryTaken c.entries.desk rest t n) c.in-Entry.is c.in_ok-len.ensures in
    let next : IsEntryTaken c.entries.desk (drop at bytes) (taken.Entry c.in-Entry.len) n =
    subst (λ (l : List ℕ). IsEntryTaken c.entries.desk l (taken.Entry c.in-Entry.len) n) (take_rest bytes at) was in
    read_more c.args.desk.now bytes c.args.front_len at c.in-Entry.len c.entries.desk n c.entries.invariant next.0 next.2

pub returns-in-NoEntry : goal.returns-in-NoEntry
returns-in-NoEntry g c =
    let bytes : List ℕ = c.args.bytes.now in
    let at : ℕ = c.entries.at in
    let n = c.take_entry.new.self in
    let rest : List ℕ = take (length bytes - at) (drop at bytes) in
    let none : IsEntryTaken c.entries.desk rest taken.NoEntry n =
    subst (λ (t : Taken). IsEntryTaken c.entries.desk rest t n) c.in-NoEntry.is c.in_ok-len.ensures in
    lost c.args.desk.now bytes c.args.front_len at c.entries.desk n rest c.entries.invariant (take_rest bytes at) none.1
    (c.is_durable_beyond.ensures.beyond c.if-is_durable_beyond.true)

pub returns-in-Other : goal.returns-in-Other
returns-in-Other g c =
    let bytes : List ℕ = c.args.bytes.now in
    let at : ℕ = c.entries.at in
    let n = c.take_entry.new.self in
    let rest : List ℕ = take (length bytes - at) (drop at bytes) in
    let other : IsEntryTaken c.entries.desk rest taken.Other n =
    subst (λ (t : Taken). IsEntryTaken c.entries.desk rest t n) c.in-Other.is c.in_ok-len.ensures in
    changed c.args.desk.now bytes c.args.front_len at c.entries.desk n rest c.entries.invariant (take_rest bytes at) other.0 other.1
