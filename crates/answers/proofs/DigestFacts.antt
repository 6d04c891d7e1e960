-- Two outputs with the same lines of forms have the same award, or two different texts have one digest.
use Rattle.std.proofs.Common.{◌≡◌, ◌≢◌, ◌≤◌, ◌<◌, ◌+◌, ◌-◌, ◌++◌, ◌==◌, ◌∷◌, ◌∙◌, ◌⊎◌, [], ℕ, zero, suc, List, Option, None, Some, Contains}
use Rattle.std.proofs.Common.{ap, ap₂, arith, codes, eq-eqb, eqb-true, false, true, inl, inr, length, refl, slice_index_or, subst, sym}
use Rattle.std.proofs.lemmas.Bool.{cases_Bool, eqb-false}
use Rattle.std.proofs.lemmas.List.Elements.{Contains-append_left, Contains-append_right}
use Rattle.std.specs.List.{AllByRecursion, last_or, zip}
use Rattle.std.specs.Prelude.{filter, option_map}
use Rattle.answers.specs.Forms.{digest}
use Rattle.answers.specs.VerifiedForms.{AwardFollowsFromDigests, HaveOneDigest, lines_of_forms}
use Rattle.answers.proofs.AwardFacts.{award_follows}
use Rattle.answers.proofs.FormLineFacts.{AreAlike, IsFewBids, Read, lines, same-lines, same-rules}
use Rattle.auction_input.specs.Auction.{Auction}
use Rattle.auction_input.specs.Described.{Describes, texts_named}
use Rattle.auction_input.specs.Input.{Input}
use Rattle.auction_input.specs.LastForms.{DescribesBids, last_form}
use Rattle.auction_input.specs.ParsedParts.{only_text}
use Rattle.auction_input.specs.SameForms.{last_bytes}
use Rattle.auction_input.specs.SealedTexts.{rules_in, sealed_texts, with_texts}
use Rattle.auction_input.specs.declared.request.Request.{Request}
use Rattle.auction_input.specs.declared.request.Request.TheVariants.{Verify}
use Rattle.auction_input.proofs.SealedTextFacts.{is-of-auction, rules-follow, same-texts}
use Rattle.auction_terms.specs.Limits.{IsBook}
use Rattle.auction_terms.specs.Terms.{Terms}
use Rattle.auction_terms.specs.declared.bids.Bid.{Bid}
use Rattle.auction_terms.specs.declared.limits.TheConstants.{MOST_BIDS}
use Rattle.bid_forms.specs.Offers.{Offers}

-- ---- texts are the same or differ

text-or-not : (xs ys : List ℕ) → (xs ≡ ys) ⊎ (xs ≢ ys)
text-or-not [] [] = inl refl
text-or-not [] (y ∷ ys) = inr (λ is. cc)
text-or-not (x ∷ xs) [] = inr (λ is. cc)
text-or-not (x ∷ xs) (y ∷ ys) = elim (cases_Bool (x == y)) [
  | inr other ↦ inr (λ is. let same : x ≡ y = cc in let told : (x == y) ≡ (y == y) = ap (λ (n : ℕ). n == y) same in differ y (sym told ∙ other))
  | inl own ↦ elim (text-or-not xs ys) [
    | inl rest ↦ inl (ap₂ (λ (n : ℕ) (ns : List ℕ). n ∷ ns) (eqb-true x y own) rest)
    | inr rest ↦ inr (λ is. let tails : xs ≡ ys = cc in rest tails)
  ]
]
  where
    differ : {A : Type 0} (n : ℕ) → (n == n) ≡ false → A
    differ n is = (let same : (n == n) ≡ true = eq-eqb n n refl in cc)

-- ---- which texts

only-in : (texts : List (List ℕ)) → length texts ≡ 1 → Contains texts (only_text texts)
only-in [] one = absurd (omega arith)
only-in (text ∷ texts) one = (0, omega arith, refl)

later : (text : List ℕ) (texts : List (List ℕ)) (x : List ℕ) → Contains texts x → Contains (text ∷ texts) x
later text texts x (k, within, is) = (suc k, omega arith, is)

-- the last form's text is one of the texts
last-in : (b : ℕ) (forms : List Offers) (texts : List (List ℕ)) (before : Option Read) (form : Read)
    → last_or before (filter (λ (x : Read). x.0.bidder == b) (zip forms texts)) ≡ Some form → (before ≡ Some form) ⊎ Contains texts form.1
last-in b [] texts before form is = inl is
last-in b (f ∷ forms) [] before form is = inl is
last-in b (f ∷ forms) (text ∷ texts) before form is = elim (cases_Bool (f.bidder == b)) [
  | inl own ↦ elim (last-in b forms texts (Some (f, text)) form (rw own at is)) [
    | inl here ↦ inr (0, omega arith, ap (λ (x : Read). x.1) (some-same (f, text) form here))
    | inr there ↦ inr (later text texts form.1 there)
  ]
  | inr other ↦ elim (last-in b forms texts before form (rw other at is)) [
    | inl here ↦ inl here
    | inr there ↦ inr (later text texts form.1 there)
  ]
]
  where
    some-same : (a c : Read) → Some a ≡ Some c → a ≡ c
    some-same a c same = cc

is-in : (b : ℕ) (forms : List Offers) (texts : List (List ℕ)) (form : Read) → last_form b (zip forms texts) ≡ Some form → Contains texts form.1
is-in b forms texts form is = elim (last-in b forms texts None form is) [ inl none ↦ cc | inr there ↦ there ]

-- ---- how many bids

few-at : (book : List (List Bid)) (k : ℕ) → AllByRecursion (λ form. length form ≤ MOST_BIDS) book → length (slice_index_or book k []) ≤ MOST_BIDS
few-at [] k few = omega arith
few-at (form ∷ book) zero few = few.0
few-at (form ∷ book) (suc k) few = few-at book k few.1

few-of : (t : Terms) (b : ℕ) (bids : List Bid) (form : Option Read) → length bids ≤ MOST_BIDS → DescribesBids t b bids form → IsFewBids form
few-of t b bids None few describes = tt
few-of t b bids (Some form) few describes =
    let size : length form.0.bids ≡ length bids = ap (λ (o : Offers). length o.bids) describes.0 in
    let most : MOST_BIDS ≡ 4000 = refl in
    omega arith

-- ---- the same bytes, or a clash

record Clash (one other : Option Read) : Type 0 where
  form : Read
  form' : Read
  is : one ≡ Some form
  is' : other ≡ Some form'
  differ : form.1 ≢ form'.1
  same : digest form.1 ≡ digest form'.1

abbrev bytes_of : Option Read → Option (List ℕ)
bytes_of form = option_map (λ (x : Read). x.1) form

decide : (one other : Option Read) → AreAlike one other → (bytes_of one ≡ bytes_of other) ⊎ Clash one other
decide None None alike = inl refl
decide None (Some form) alike = absurd alike
decide (Some form) None alike = absurd alike
decide (Some form) (Some form') alike = elim (text-or-not form.1 form'.1) [
  | inl same ↦ inl (ap (λ (x : List ℕ). Some x) same)
  | inr differ ↦ inr (record { form = form; form' = form'; is = refl; is' = refl; differ = differ; same = alike })
]

all-or-clash : (forms forms' : List Read) (k count : ℕ) → ((b : ℕ) → k ≤ b → b < k + count → AreAlike (last_form b forms) (last_form b forms'))
    → ((b : ℕ) → k ≤ b → b < k + count → last_bytes forms b ≡ last_bytes forms' b) ⊎ ((b : ℕ) × Clash (last_form b forms) (last_form b forms'))
all-or-clash forms forms' k zero alike = inl (λ b least most. absurd (omega arith))
all-or-clash forms forms' k (suc count) alike = elim (decide (last_form k forms) (last_form k forms') (alike k (omega arith) (omega arith))) [
  | inr clash ↦ inr (k, clash)
  | inl here ↦ elim (all-or-clash forms forms' (k + 1) count (λ b least most. alike b (omega arith) (omega arith))) [
    | inr clash ↦ inr clash
    | inl rest ↦ inl (λ b least most. elim (cases_Bool (b == k)) [
      | inl own ↦ subst (λ (n : ℕ). last_bytes forms n ≡ last_bytes forms' n) (sym (eqb-true b k own)) here
      | inr other ↦ rest b (after b k least other) (omega arith)
    ])
  ]
]
  where
    after : (b n : ℕ) → n ≤ b → (b == n) ≡ false → n + 1 ≤ b
    after b n least other = let differ = eqb-false b n other in omega arith

-- ---- of two inputs

below : (b n : ℕ) → b < 1 + n → b ≤ n
below b n less = omega arith

above : (b n : ℕ) → b ≤ n → b < 1 + n
above b n most = omega arith

module _ (asked : Request) (input : Input) (auction : Auction) (d : Describes asked input auction) where
  abbrev read : List Read
  read = with_texts input d.forms

  few-forms : IsBook auction.sale.lots auction.sale.book → (b : ℕ) → 1 ≤ b → b < 1 + length auction.rules.bidders → IsFewBids (last_form b read)
  few-forms book b least most =
      few-of auction.rules b (slice_index_or auction.sale.book (b - 1) []) (last_form b read) (few-at auction.sale.book (b - 1) book.forms)
      ((is-of-auction asked input auction d).each b least (below b (length auction.rules.bidders) most))

  has-rules : Contains (sealed_texts input) (rules_in input)
  has-rules =
      Contains-append_left (texts_named (codes "%rules") input) (texts_named (codes "%form") input) (rules_in input)
      (only-in (texts_named (codes "%rules") input) d.parts.one_of_rules)

  has-form : (b : ℕ) (form : Read) → last_form b read ≡ Some form → Contains (sealed_texts input) form.1
  has-form b form is =
      Contains-append_right (texts_named (codes "%rules") input) (texts_named (codes "%form") input) form.1
      (is-in b d.forms (texts_named (codes "%form") input) form is)

module _ (asked asked' : Request) (input input' : Input) (auction auction' : Auction) (d : Describes asked input auction)
    (d' : Describes asked' input' auction') where
  abbrev texts : List (List ℕ)
  texts = sealed_texts input ++ sealed_texts input'

  clash-of-rules : rules_in input ≢ rules_in input' → digest (rules_in input) ≡ digest (rules_in input') → HaveOneDigest texts
  clash-of-rules differ same = record {
    one = rules_in input;
    other = rules_in input';
    is_one = Contains-append_left (sealed_texts input) (sealed_texts input') (rules_in input) (has-rules asked input auction d);
    is_other = Contains-append_right (sealed_texts input) (sealed_texts input') (rules_in input') (has-rules asked' input' auction' d');
    differ = differ;
    same = same;
  }

  clash-of-forms : (b : ℕ) → Clash (last_form b (with_texts input d.forms)) (last_form b (with_texts input' d'.forms)) → HaveOneDigest texts
  clash-of-forms b clash = record {
    one = clash.form.1;
    other = clash.form'.1;
    is_one = Contains-append_left (sealed_texts input) (sealed_texts input') clash.form.1 (has-form asked input auction d b clash.form clash.is);
    is_other = Contains-append_right (sealed_texts input) (sealed_texts input') clash.form'.1
        (has-form asked' input' auction' d' b clash.form' clash.is');
    differ = clash.differ;
    same = clash.same;
  }

  -- the rules and the sale are the same, or two texts have one digest
  one-sale-or-clash : IsBook auction.sale.lots auction.sale.book → IsBook auction'.sale.lots auction'.sale.book
      → lines_of_forms input auction.rules d.forms ≡ lines_of_forms input' auction'.rules d'.forms
      → ((auction.rules ≡ auction'.rules) × (auction.sale ≡ auction'.sale)) ⊎ HaveOneDigest texts
  one-sale-or-clash book book' whole =
      let forms = with_texts input d.forms in
      let forms' = with_texts input' d'.forms in
      let (digests, rest) = same-rules (rules_in input) (rules_in input') (lines forms 1 auction.rules.bidders) (lines forms' 1 auction'.rules.bidders) whole in
      elim (text-or-not (rules_in input) (rules_in input')) [
        | inr differ ↦ inr (clash-of-rules differ digests)
        | inl same ↦
            let rules : auction.rules ≡ auction'.rules = rules-follow asked asked' input input' auction auction' d d' same in
            let there : lines forms 1 auction.rules.bidders ≡ lines forms' 1 auction.rules.bidders =
            rest ∙ ap (λ (t : Terms). lines forms' 1 t.bidders) (sym rules) in
            let few' : (b : ℕ) → 1 ≤ b → b < 1 + length auction.rules.bidders → IsFewBids (last_form b forms') =
            subst (λ (t : Terms). (b : ℕ) → 1 ≤ b → b < 1 + length t.bidders → IsFewBids (last_form b forms')) (sym rules)
            (few-forms asked' input' auction' d' book') in
            elim (all-or-clash forms forms' 1 (length auction.rules.bidders)
            (same-lines forms forms' auction.rules.bidders 1 (few-forms asked input auction d book) few' there)) [
              | inr found ↦ inr (clash-of-forms found.0 found.1)
              | inl each ↦ inl (same-texts asked asked' input input' auction auction' d d' same
                  (λ b least most. each b least (above b (length auction.rules.bidders) most)))
            ]
      ]

pub award-of-digests : AwardFollowsFromDigests
award-of-digests workers workers' input input' all before before' one other =
    elim (one-sale-or-clash (Verify workers) (Verify workers') input input' one.auction other.auction one.described other.described
    one.is_true.book other.is_true.book (sym one.lines_are ∙ other.lines_are)) [
      | inr clash ↦ inr clash
      | inl same ↦
          let (award, award', none, none', awards) = award_follows one.auction other.auction before before' same.0 same.1 one.is_true other.is_true in
          inl (award, award', awards)
    ]
