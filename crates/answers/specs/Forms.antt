-- What `forms` writes, in words and in objects: the digest of the rules, and for each bidder, in the order of the rules, that of its last form.
use Rattle.std.specs.Prelude.{◌++◌, ◌∷◌, ℕ, List, [], Option, None, Some, codes, decimal, length, option_map}
use Rattle.hex.specs.Hex.{encode_lower}
use Rattle.sha2.specs.Sha256.{sha256}
use Rattle.auction_input.specs.LastForms.{FormParts, last_form}
use Rattle.auction_terms.specs.declared.rules.Bidder.{Bidder}
use Rattle.bid_forms.specs.Offers.{Offers}
use Rattle.auction_terms.specs.Terms.{Terms}
use Rattle.byte_sinks.specs.Objects.{named_number, named_number_if, named_text, named_text_if, object_text}
use Rattle.outcome.specs.Report.{in_turn}

-- the SHA-256 of bytes, in hexadecimal digits with small letters
abbrev pub digest : List ℕ → List ℕ
digest bytes = encode_lower (sha256 bytes)

-- the line of the rules, by the bytes of their part
abbrev pub rules_line : List ℕ → List ℕ
rules_line bytes = codes "%rules " ++ (digest bytes ++ 10 ∷ [])

-- the line of a bidder: how many bids its last form has, and the digest of the bytes of that form's part; or that it has none
abbrev pub form_line : List ℕ → Option (Offers × List ℕ) → List ℕ
form_line name None = codes "%form " ++ (name ++ codes " -\n")
form_line name (Some form) =
    codes "%form " ++ (name ++ (32 ∷ (decimal (length form.0.bids) ++ (32 ∷ (digest form.1 ++ 10 ∷ [])))))

-- the line of the rules, and those of the bidders in the order of the rules
abbrev pub forms_text : FormParts → List ℕ
forms_text read = rules_line read.bytes ++ in_turn (λ number (bidder : Bidder). form_line bidder.name (last_form number read.forms)) 1 read.rules.bidders

-- the object of the rules, by the bytes of their part
abbrev pub rules_object : List ℕ → Terms → List ℕ
rules_object bytes t = object_text (named_text (codes "rules") (digest bytes) ∷ named_number (codes "step") t.step ∷ [])

-- the object of a bidder: how many bids its last form has, and the digest of the bytes of that form's part; null where it has none
abbrev pub form_object : List ℕ → Option (Offers × List ℕ) → List ℕ
form_object name form = object_text (named_text (codes "form") name ∷ named_number_if (codes "bids") (option_map (λ f. length f.0.bids) form) ∷
    named_text_if (codes "sha256") (option_map (λ f. digest f.1) form) ∷ [])

-- the object of the rules, and those of the bidders in the order of the rules
abbrev pub forms_objects : FormParts → List ℕ
forms_objects read =
    rules_object read.bytes read.rules ++ in_turn (λ number (bidder : Bidder). form_object bidder.name (last_form number read.forms)) 1 read.rules.bidders
