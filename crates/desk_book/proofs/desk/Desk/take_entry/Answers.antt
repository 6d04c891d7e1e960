use Rattle.std.proofs.Common.{◌≡◌, ◌++◌, ◌∙◌, List, Some, ℕ, sym, take, true}
use Rattle.std.proofs.lemmas.Slice.Eq.{bytes_eq-Decides}
use Rattle.std.specs.Str.{bytes_eq}
use Rattle.desk_book.specs.Digests.{sha_digits}
use Rattle.desk_book.specs.ReadEntries.{EntryParts, entry_at, entry_read}
use Rattle.desk_book.proofs.ReadAgain.{true_if}
use Rattle.desk_book.proofs.SameEntry.{no_entry_if}
use Rattle.desk_book.proofs.desk.Desk.take_entry.Goals as goal

pub returns-then-branch : goal.returns-then-branch
returns-then-branch g c = (c.in_ok-redo.ensures.same c.if-branch.true, c.in-Some.ensures.within.0, c.in-Some.ensures.within.1)

pub returns-else-branch : goal.returns-else-branch
returns-else-branch g c =
    let m = c.args.self.now in
    let bytes : List ℕ = c.args.bytes.now in
    let parts : EntryParts = entry_read c.in-Some.text in
    let chain : List ℕ = c.in-Some.text.tail.chain.now in
    let stands : entry_at bytes ≡ Some parts = sym c.in-Some.ensures.entry in
    let front : List ℕ = take c.in-Some.text.chain_at bytes in
    let linked : List ℕ = sha_digits (m.chain ++ front) in
    let there : c.as_slice.result.now ≡ linked = c.as_slice.ensures ∙ c.digest_of_both-linked.ensures in
    let equal : bytes_eq c.as_slice.result.now chain ≡ true = true_if (bytes_eq c.as_slice.result.now chain) (sym c.ne.ensures ∙ c.if-ne.false) in
    let same : chain ≡ linked = sym ((bytes_eq-Decides c.as_slice.result.now chain).0 equal) ∙ there in
    (record { parts = parts; stands = stands; linked = same }, no_entry_if m bytes parts stands (c.in_ok-redo.ensures.other c.if-branch.false))
