-- What a run asks of files, by the looks and then by the calls_to_open.
use Rattle.std.proofs.Common.{◌≡◌, ◌≢◌, ◌⊎◌, ◌∷◌, ◌∙◌, ◌<◌, [], ℕ, Bool, List, None, Option, Some, Result, Ok, Err, OnErr, ap, arith, false, inl, inr, length, map, refl, suc, subst, sym, zero}
use Rattle.std.specs.Prelude.{String}
use Rattle.std.specs.Option.{option_map}
use Rattle.std.proofs.lemmas.List.{append-nil}
use Rattle.auction_input.specs.FileCalls.{AreBegun, AreAsked, FileCall, looks, calls_to_open}
use Rattle.auction_input.specs.FileTexts.{named_files}
use Rattle.auction_input.proofs.FileCallFacts.{begun-before, begun-more, made-more, made-none}
use Rattle.byte_sinks.specs.Sinks.{Outlet}
use Rattle.clap.specs.declared.error.kind.ErrorKind.TheVariants as kind
use Rattle.clap.specs.declared.error.kind.ErrorKind.{ErrorKind}
use Rattle.answers.specs.Asked.{Asked, CommandLine, by_fault, for_answer, for_help, for_nothing, for_version, text_of}
use Rattle.answers.specs.Runs.{IsShown}
use Rattle.answers.specs.inside.Runs.{HasShown}
use Rattle.answers.specs.RunCalls.{AreCalled, calls_for, looks_named}

-- where no file is named none is looked at
pub looks-none : {Z : Type 0} (names : List (String Z)) (with_rights : Bool) → length names ≡ 0 → looks_named (named_files names) None with_rights ≡ []
looks-none [] with_rights none = refl
looks-none (name ∷ names) with_rights none = absurd (omega (arith, none))

-- where one is read all are looked at
pub looks-some : {Z : Type 0} (names : List (String Z)) (output : Option (List ℕ)) (with_rights : Bool) → 0 < length names
    → looks_named (named_files names) output with_rights ≡ looks (named_files names) output with_rights
looks-some [] output with_rights some = absurd (omega (arith, some))
looks-some (name ∷ names) output with_rights some = refl

-- and where one is written
pub looks-output : (names : List (List ℕ)) (name : List ℕ) (with_rights : Bool) → looks_named names (Some name) with_rights ≡ looks names (Some name) with_rights
looks-output [] name with_rights = refl
looks-output (first ∷ names) name with_rights = refl

-- so the looks at what a command line names are those: where no file is written
pub looks-read : {Z : Type 0} (names items : List (String Z)) (output : Option (String Z)) (with_rights : Bool) → names ≡ items → output ≡ None
    → 0 < length names → looks (named_files names) None with_rights ≡ looks_named (map text_of items) (option_map text_of output) with_rights
looks-read {Z} names items output with_rights are none some =
    sym (looks-some names None with_rights some)
    ∙ ap (λ (xs : List (String Z)). looks_named (map text_of xs) None with_rights) are
    ∙ ap (λ (o : Option (String Z)). looks_named (map text_of items) (option_map text_of o) with_rights) (sym none)

-- and where one is
pub looks-with : {Z : Type 0} (names items : List (String Z)) (output : Option (String Z)) (name : String Z) (bytes : List ℕ) (with_rights : Bool)
    → names ≡ items → output ≡ Some name → bytes ≡ text_of name
    → looks (named_files names) (Some bytes) with_rights ≡ looks_named (map text_of items) (option_map text_of output) with_rights
looks-with {Z} names items output name bytes with_rights are is same =
    sym (looks-output (named_files names) bytes with_rights)
    ∙ ap (λ (xs : List (String Z)). looks_named (map text_of xs) (Some bytes) with_rights) are
    ∙ ap (λ (b : List ℕ). looks_named (map text_of items) (Some b) with_rights) same
    ∙ ap (λ (o : Option (String Z)). looks_named (map text_of items) (option_map text_of o) with_rights) (sym is)

-- looks that are begun, by what they are
pub begun-as : {T E : Type 0} (due due' : Bool → List FileCall) → ((with_rights : Bool) → due with_rights ≡ due' with_rights)
    → (before after : Option (List FileCall)) (result : Result T E) → OnErr result ((with_rights : Bool) × AreBegun (due with_rights) before after)
    → OnErr result ((with_rights : Bool) × AreBegun (due' with_rights) before after)
begun-as due due' same before after (Ok x) begun = tt
begun-as due due' same before after (Err e) (with_rights, begun) =
    (with_rights, subst (λ (calls : List FileCall). AreBegun calls before after) (same with_rights) begun)

-- all that is due was asked
pub called-whole : (line : CommandLine) (status : ℕ) (before between after : Option (List FileCall))
    → (with_rights : Bool) × AreAsked (looks_named line.files line.output with_rights) before between → AreAsked (calls_to_open line.files) between after
    → AreCalled (for_answer line) status before after
called-whole line status before between after (with_rights, looked) opened = (
  with_rights,
  (
    calls_for line with_rights,
    [],
    sym (append-nil (calls_for line with_rights)),
    made-more (looks_named line.files line.output with_rights) (calls_to_open line.files) before between after looked opened,
    λ zero. refl,
  ),
)

-- what is due was begun, and the run is refused
pub called-refused : (line : CommandLine) (status : ℕ) (before after : Option (List FileCall)) → 0 < status
    → (with_rights : Bool) × AreBegun (calls_for line with_rights) before after → AreCalled (for_answer line) status before after
called-refused line status before after some (with_rights, (made, left, is, did)) =
    (with_rights, (made, left, is, did, λ zero. absurd (omega (arith, some, zero))))

-- the look was begun, and the run is refused
pub called-looking : (line : CommandLine) (before after : Option (List FileCall))
    → (with_rights : Bool) × AreBegun (looks_named line.files line.output with_rights) before after → AreCalled (for_answer line) 1 before after
called-looking line before after (with_rights, looked) =
    called-refused line 1 before after (omega arith)
    (with_rights, begun-before (looks_named line.files line.output with_rights) (calls_to_open line.files) before after looked)

-- all looks were made, not all files were read, and the run is refused
pub called-reading : (line : CommandLine) (before between after : Option (List FileCall))
    → (with_rights : Bool) × AreAsked (looks_named line.files line.output with_rights) before between → AreBegun (calls_to_open line.files) between after
    → AreCalled (for_answer line) 1 before after
called-reading line before between after (with_rights, looked) opened =
    called-refused line 1 before after (omega arith)
    (with_rights, begun-more (looks_named line.files line.output with_rights) (calls_to_open line.files) before between after looked opened)

-- nothing was asked, and the run is refused
pub called-none : (line : CommandLine) (status : ℕ) (calls : Option (List FileCall)) → 0 < status → AreCalled (for_answer line) status calls calls
called-none line status calls some = called-refused line status calls calls some (false, ([], calls_for line false, refl, made-none calls))

pub positive : (n : ℕ) → n ≢ 0 → 0 < n
positive zero other = absurd (other refl)
positive (suc n) other = omega arith

-- nothing was asked, since the words have a fault, or memory was short
pub called-faulty : (asked : Asked) (k : ErrorKind) → (k ≡ kind.OutOfMemory) ⊎ (asked ≡ by_fault k) → (status : ℕ) (output output' : Outlet)
    → (status ≡ 0 → HasShown (by_fault k) output output') → (calls : Option (List FileCall)) → AreCalled asked status calls calls
called-faulty for_help k for status output output' shown calls = refl
called-faulty for_version k for status output output' shown calls = refl
called-faulty for_nothing k for status output output' shown calls = refl
called-faulty (for_answer line) k for status output output' shown calls = called-none line status calls (positive status other)
  where
    other : status ≢ 0
    other none = (let (text, is, sent) = shown none in elim for [
      | inl memory ↦ subst (λ (x : ErrorKind). IsShown (by_fault x) text) memory is
      | inr by ↦ subst (λ (a : Asked). IsShown a text) (sym by) is
    ])
