-- The last form of each bidder, form by form; and what the stages of reading forms give.
use Rattle.std.proofs.Common.{◌≡◌, ◌<◌, ◌++◌, ◌==◌, ◌∷◌, ◌∙◌, [], ℕ, Bool, Option, true, false, List, None, Some, Result, Ok, Err, ap, append-nil}
use Rattle.std.proofs.Common.{arith, cond, inl, inr, codes, length, length-set, get_or-set_other}
use Rattle.std.proofs.Common.{get_or-set_same, refl, slice_index_or, slice_set, sym}
use Rattle.std.proofs.lemmas.Bool.{cases_Bool, eqb-false, eqb-true}
use Rattle.std.proofs.lemmas.List.Elements.{filter-append}
use Rattle.std.specs.List.{last_or, zip}
use Rattle.std.specs.Prelude.{filter, option_map}
use Rattle.auction_input.specs.CallLimit.{one_too_many}
use Rattle.auction_input.specs.FormTexts.{form_elsewhere, in_one_text}
use Rattle.auction_input.specs.Input.{Input}
use Rattle.auction_input.specs.LastForms.{FormParts, HoldsLast, counted, counted_held, last_form, parsed_forms}
use Rattle.auction_input.specs.ParsedParts.{only_text, parsed_parts}
use Rattle.auction_input.specs.ParsedTexts.{parsed_form, parsed_terms}
use Rattle.auction_input.specs.Parts.{Part, parts_named, text_numbers}
use Rattle.auction_input.specs.Refused.{Refuses}
use Rattle.auction_input.specs.declared.form_texts.AnotherForm.{AnotherForm}
use Rattle.auction_input.specs.declared.last_forms.LastForm.{LastForm}
use Rattle.auction_input.specs.declared.last_forms.LastForms.{LastForms}
use Rattle.auction_input.specs.declared.last_forms.TheConstants.{FORMS_LEN}
use Rattle.auction_input.specs.declared.refusal.Refusal.TheVariants as refusal
use Rattle.auction_input.specs.declared.refusal.Refusal.{Refusal}
use Rattle.auction_input.specs.declared.request.Request.TheVariants.{Forms}
use Rattle.auction_input.proofs.StageFacts.{after-ok, next, stop}
use Rattle.auction_terms.specs.FirstFault.{first_fault}
use Rattle.auction_terms.specs.Stages.{each_in_turn, refused_as, unless}
use Rattle.auction_terms.specs.Terms.{Terms}
use Rattle.bid_forms.specs.Offers.{Offers}

abbrev Read : Type 0
Read = Offers × List ℕ

last-push : (o : Option Read) (xs : List Read) (x : Read) → last_or o (xs ++ x ∷ []) ≡ Some x
last-push o [] x = refl
last-push o (y ∷ xs) x = last-push (Some y) xs x

abbrev is_of : ℕ → Read → Bool
is_of b form = form.0.bidder == b

abbrev lone : Read → Bool → List Read
lone form b = cond b (form ∷ []) []

module _ (b : ℕ) (forms : List Read) (form : Read) where
  last-more : last_form b (forms ++ form ∷ []) ≡ last_or None (filter (is_of b) forms ++ lone form (is_of b form))
  last-more = ap (last_or None) (filter-append (is_of b) forms (form ∷ []))

  -- a further form of a bidder is its last one
  pub last-own : (form.0.bidder == b) ≡ true → last_form b (forms ++ form ∷ []) ≡ Some form
  last-own own = last-more ∙ ap (λ (t : Bool). last_or None (filter (is_of b) forms ++ lone form t)) own ∙ last-push None (filter (is_of b) forms) form

  -- one of another changes nothing
  pub last-other : (form.0.bidder == b) ≡ false → last_form b (forms ++ form ∷ []) ≡ last_form b forms
  last-other other = last-more ∙ ap (λ (t : Bool). last_or None (filter (is_of b) forms ++ lone form t)) other
      ∙ ap (last_or None) (append-nil (filter (is_of b) forms))

-- ---- what is held

pub none-held : (known : LastForms) → length known.by_bidder ≡ FORMS_LEN
    → ((b : ℕ) → b < FORMS_LEN → slice_index_or known.by_bidder b None ≡ None) → HoldsLast known []
none-held known long empty = record { long = long; last = λ b within. ap (λ (o : Option LastForm). option_map counted_held o) (empty b within) }

pub one-more-held : (known : LastForms) (forms : List Read) (form : Read) (l : LastForm) → HoldsLast known forms → form.0.bidder < FORMS_LEN
    → counted_held l ≡ counted form
    → HoldsLast (record known { by_bidder = slice_set known.by_bidder form.0.bidder (Some l) }) (forms ++ form ∷ [])
one-more-held known forms form l holds small is =
    let long = holds.long in record {
      long = length-set known.by_bidder form.0.bidder (Some l) ∙ long;
      last = λ b within. elim (cases_Bool (form.0.bidder == b)) [
        | inl own ↦ (
            let same : form.0.bidder ≡ b = eqb-true form.0.bidder b own in
            ap (λ (i : ℕ). option_map counted_held (slice_index_or (slice_set known.by_bidder form.0.bidder (Some l)) i None)) (sym same)
            ∙ ap (λ (o : Option LastForm). option_map counted_held o) (get_or-set_same known.by_bidder form.0.bidder (Some l) None (omega arith))
            ∙ ap (λ (x : ℕ × List ℕ). Some x) is
            ∙ ap (λ (o : Option Read). option_map counted o) (sym (last-own b forms form own)))
        | inr other ↦ (
            ap (λ (o : Option LastForm). option_map counted_held o)
            (get_or-set_other known.by_bidder form.0.bidder b (Some l) None (λ e. eqb-false form.0.bidder b other (sym e)))
            ∙ holds.last b within ∙ ap (λ (o : Option Read). option_map counted o) (sym (last-other b forms form other)))
      ];
    }

-- ---- the stages

module _ (input : Input) (parts : List Part) (cut : parsed_parts Forms input ≡ Ok parts) where
  pub rules-refused : (r : Refusal) → Refuses (parsed_terms (only_text (parts_named (codes "%rules") parts))) r → Refuses (parsed_forms input) r
  rules-refused r refused = after-ok _ parts _ r cut (stop _ _ r refused)

  module _ (t : Terms) (rules : parsed_terms (only_text (parts_named (codes "%rules") parts)) ≡ Ok t) where
    pub each-refused : (r : Refusal) → Refuses (each_in_turn (parsed_form t) 1 (parts_named (codes "%form") parts)) r → Refuses (parsed_forms input) r
    each-refused r refused = after-ok _ parts _ r cut (after-ok _ t _ r rules (stop _ _ r refused))

    module _ (forms : List Offers) (each : each_in_turn (parsed_form t) 1 (parts_named (codes "%form") parts) ≡ Ok forms) where
      pub elsewhere-refused : (r : Refusal) → Refuses (in_one_text input.last_wins t (text_numbers (codes "%form") parts) forms) r
          → Refuses (parsed_forms input) r
      elsewhere-refused r refused = after-ok _ parts _ r cut (after-ok _ t _ r rules (after-ok _ forms _ r each (stop _ _ r refused)))

      module _ (alone : form_elsewhere input.last_wins t (text_numbers (codes "%form") parts) forms ≡ None) where
        alone-is : in_one_text input.last_wins t (text_numbers (codes "%form") parts) forms ≡ Ok forms
        alone-is = ap (λ (found : Option AnotherForm). refused_as refusal.AnotherForm (unless found (Ok forms))) alone

        abbrev pub read_so : FormParts
        read_so = record {
          bytes = only_text (parts_named (codes "%rules") parts);
          rules = t;
          forms = zip forms (parts_named (codes "%form") parts);
        }

        abbrev parsed-by : Option ℕ → Result FormParts Refusal
        parsed-by found = refused_as refusal.CallLimit (unless found (Ok read_so))

        abbrev no_parts : Refusal → Result FormParts Refusal
        no_parts r = Err r

        pub limit-refused : (number : ℕ) (r : Refusal) → first_fault one_too_many [] forms ≡ Some number → r ≡ refusal.CallLimit number
            → Refuses (parsed_forms input) r
        limit-refused number r found is =
            let limit : parsed-by (first_fault one_too_many [] forms) ≡ Err r = ap parsed-by found ∙ ap no_parts (sym is) in
            after-ok _ parts _ r cut (after-ok _ t _ r rules (after-ok _ forms _ r each (after-ok _ forms _ r alone-is (inl limit))))

        pub forms-are : first_fault one_too_many [] forms ≡ None → parsed_forms input ≡ Ok read_so
        forms-are accepted = next _ _ _ _ cut (next _ _ _ _ rules (next _ _ _ _ each (next _ _ _ _ alone-is (ap parsed-by accepted))))
