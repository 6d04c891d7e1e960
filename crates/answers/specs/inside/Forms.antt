-- What `forms` writes, in words and in objects, by what is held of the last forms.
use Rattle.std.specs.Prelude.{◌++◌, ◌∷◌, ℕ, List, [], Option, None, Some, codes, decimal, option_map, slice_index_or}
use Rattle.answers.specs.Forms.{digest, rules_line, rules_object}
use Rattle.auction_input.specs.declared.last_forms.FormParts.{FormParts}
use Rattle.auction_input.specs.declared.last_forms.LastForm.{LastForm}
use Rattle.auction_input.specs.declared.last_forms.LastForms.{LastForms}
use Rattle.auction_input.specs.declared.request.Objects.TheVariants as objects
use Rattle.auction_input.specs.declared.request.Request.TheVariants as request
use Rattle.auction_input.specs.declared.request.Request.{Request}
use Rattle.auction_terms.specs.Terms.{Terms}
use Rattle.auction_terms.specs.declared.rules.Bidder.{Bidder}
use Rattle.byte_sinks.specs.Objects.{named_number_if, named_text, named_text_if, object_text}
use Rattle.byte_sinks.specs.declared.json.Format.{Format}
use Rattle.byte_sinks.specs.declared.json.Format.TheVariants as format
use Rattle.outcome.specs.Report.{in_turn}

-- the line of a bidder
abbrev pub held_line : List ℕ → Option LastForm → List ℕ
held_line name None = codes "%form " ++ (name ++ codes " -\n")
held_line name (Some form) =
    codes "%form " ++ (name ++ (32 ∷ (decimal form.bids ++ (32 ∷ (digest form.bytes.now ++ 10 ∷ [])))))

-- the object of a bidder
abbrev pub held_object : List ℕ → Option LastForm → List ℕ
held_object name form = object_text (named_text (codes "form") name ∷ named_number_if (codes "bids") (option_map (λ f. f.bids) form) ∷
    named_text_if (codes "sha256") (option_map (λ f. digest f.bytes.now) form) ∷ [])

-- the line of a bidder, or its object
abbrev pub held_in : Format → List ℕ → Option LastForm → List ℕ
held_in format.Words name form = held_line name form
held_in format.Json name form = held_object name form

-- of bidders, whose numbers are their places from 1
abbrev pub bidders_held : Format → LastForms → List Bidder → List ℕ
bidders_held f last bidders = in_turn (λ number (bidder : Bidder). held_in f bidder.name (slice_index_or last.by_bidder number None)) 1 bidders

-- the request for them
abbrev pub forms_request : Format → Request
forms_request format.Words = request.Forms
forms_request format.Json = request.Objects objects.Forms

-- of the rules
abbrev pub rules_as : Format → List ℕ → Terms → List ℕ
rules_as format.Words bytes t = rules_line bytes
rules_as format.Json bytes t = rules_object bytes t

-- of all
abbrev pub held_as : Format → FormParts → List ℕ
held_as f parts = rules_as f parts.bytes.now parts.rules ++ bidders_held f parts.last parts.rules.bidders
