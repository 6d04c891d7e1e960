-- What is reported of a refusal of an input: where there are several texts, with the name of the file that it is of.
use Rattle.std.specs.Prelude.{◌++◌, ◌∷◌, ℕ, List, [], Option, None, Some, codes, if◌then◌else◌, slice_index_or}
use Rattle.std.specs.Str.{bytes_eq}
use Rattle.auction_input.specs.Input.{NamedText}
use Rattle.auction_input.specs.Line.{refusal_text}
use Rattle.auction_input.specs.Places.{spot_of, with_number}
use Rattle.auction_input.specs.declared.parts.PartFault.{PartFault}
use Rattle.auction_input.specs.declared.parts.PartFault.TheVariants as part
use Rattle.auction_input.specs.declared.places.Spot.{Spot}
use Rattle.auction_input.specs.declared.refusal.Refusal.TheVariants as refusal
use Rattle.auction_input.specs.declared.refusal.Refusal.{Refusal}
use Rattle.input_faults.specs.FileNames.{shown_name}

-- the name of the file of a text
abbrev pub file_name : List NamedText → ℕ → List ℕ
file_name texts n = (slice_index_or texts n (record { name = []; bytes = [] })).name

-- at a spot the number of its part is the one there
abbrev pub words_at : List NamedText → Option Spot → Refusal → List ℕ
words_at texts None r = refusal_text r
words_at texts (Some at) r = shown_name (file_name texts at.text) ++ (codes ": " ++ refusal_text (with_number at.number r))

-- after what is reported of a form that is in another text than its bidder's first form stands the name of that text's file
abbrev pub with_other : List NamedText → Refusal → List ℕ → List ℕ
with_other texts (refusal.AnotherForm f) reported =
    reported ++ (codes " is in " ++ (shown_name (file_name texts f.first_text) ++ codes "; say --last-wins where the later one counts"))
with_other texts r reported = reported

-- what is reported of a refusal, with the name of the file that its spot is in, if it has a spot, and of the other file that it may be about
abbrev pub message_at : List NamedText → Option Spot → Refusal → List ℕ
message_at texts spot r = with_other texts r (words_at texts spot r)

-- what is reported of a refusal of an input with these texts
abbrev pub message_in : List NamedText → Refusal → List ℕ
message_in texts r = message_at texts (spot_of texts r) r

-- what makes an input of files, if the first one has a name, and one of them doesn't begin with a head
abbrev pub hint_on : List ℕ → PartFault → List ℕ
hint_on name part.BeforeFirst = if bytes_eq name [] then [] else codes "; wdp-office gather makes an input of such files"
hint_on name f = []

-- what comes after what is reported of a refusal on standard error
abbrev pub hint : List NamedText → Refusal → List ℕ
hint texts (refusal.Parts f) = hint_on (file_name texts 0) f
hint texts r = []

-- the line on standard error that reports a refusal of an input
abbrev pub placed_line : List NamedText → Refusal → List ℕ
placed_line texts r = codes "wdp: " ++ (message_in texts r ++ (hint texts r ++ 10 ∷ []))
