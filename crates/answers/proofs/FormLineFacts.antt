-- The same lines of forms are of the same texts, or two different texts have one digest.
use Rattle.std.proofs.Common.{◌≡◌, ◌≢◌, ◌≤◌, ◌<◌, ◌+◌, ◌^◌, ◌/◌, ◌%◌, ◌++◌, ◌==◌, ◌∷◌, ◌∙◌, ◌&&◌, [], ℕ, zero, suc, Bool, true, false, not, List, Option, None, Some}
use Rattle.std.proofs.Common.{ap, ap₂, append_assoc, arith, codes, decimal, eq-eqb, eqb-true, get_or, inl, inr, length, refl, slice_index, subst, sym}
use Rattle.std.specs.Prelude.{⊤}
use Rattle.std.proofs.lemmas.Bool.{and_parts, cases_Bool}
use Rattle.std.proofs.lemmas.Fmt.{decimal_by_steps}
use Rattle.std.proofs.lemmas.List.{append_cancel_left}
use Rattle.hex.specs.Hex.{encode_with, lower_digits}
use Rattle.sha2.specs.Sha256.{sha256}
use Rattle.answers.specs.Forms.{digest, form_line, rules_line}
use Rattle.auction_input.specs.LastForms.{last_form}
use Rattle.auction_terms.specs.declared.rules.Bidder.{Bidder}
use Rattle.bid_forms.specs.Offers.{Offers}
use Rattle.outcome.specs.Report.{in_turn}

abbrev pub Read : Type 0
Read = Offers × List ℕ

-- ---- lists that lack a byte

abbrev lacks : ℕ → List ℕ → Bool
lacks c [] = true
lacks c (x ∷ xs) = not (x == c) && lacks c xs

clash : {A : Type 0} (x c : ℕ) → not (x == c) ≡ true → x ≡ c → A
clash x c test is = (let same : (x == c) ≡ true = eq-eqb x c is in let turned : not (x == c) ≡ false = ap not same in cc)

both-so : (a b : Bool) → a ≡ true → b ≡ true → (a && b) ≡ true
both-so true b one other = other
both-so false b one other = cc

apart : (x c : ℕ) → x ≢ c → not (x == c) ≡ true
apart x c differ = elim (cases_Bool (x == c)) [ inl same ↦ absurd (differ (eqb-true x c same)) | inr other ↦ ap not other ]

lacks-append : (c : ℕ) (xs ys : List ℕ) → lacks c xs ≡ true → lacks c ys ≡ true → lacks c (xs ++ ys) ≡ true
lacks-append c [] ys one other = other
lacks-append c (x ∷ xs) ys one other =
    let (head, rest) = and_parts (not (x == c)) (lacks c xs) one in
    both-so (not (x == c)) (lacks c (xs ++ ys)) head (lacks-append c xs ys rest other)

heads : (x y : ℕ) (xs ys : List ℕ) → x ∷ xs ≡ y ∷ ys → x ≡ y
heads x y xs ys is = cc

tails : (x y : ℕ) (xs ys : List ℕ) → x ∷ xs ≡ y ∷ ys → xs ≡ ys
tails x y xs ys is = cc

-- what stands before the first such byte, and what after it
split : (c : ℕ) (xs ys r s : List ℕ) → lacks c xs ≡ true → lacks c ys ≡ true → xs ++ c ∷ r ≡ ys ++ c ∷ s → (xs ≡ ys) × (r ≡ s)
split c [] [] r s one other is = (refl, tails c c r s is)
split c [] (y ∷ ys) r s one other is =
    clash y c (and_parts (not (y == c)) (lacks c ys) other).0 (sym (heads c y r (ys ++ c ∷ s) is))
split c (x ∷ xs) [] r s one other is = clash x c (and_parts (not (x == c)) (lacks c xs) one).0 (heads x c (xs ++ c ∷ r) s is)
split c (x ∷ xs) (y ∷ ys) r s one other is =
    let (same, rest) = split c xs ys r s (and_parts (not (x == c)) (lacks c xs) one).1 (and_parts (not (y == c)) (lacks c ys) other).1
    (tails x y (xs ++ c ∷ r) (ys ++ c ∷ s) is) in
    (ap₂ (λ (n : ℕ) (ns : List ℕ). n ∷ ns) (heads x y (xs ++ c ∷ r) (ys ++ c ∷ s) is) same, rest)

-- ---- digits

-- decimal digits are 48 and more
decimal-lacks : (c n : ℕ) → c < 48 → n < 2 ^ 64 → lacks c (decimal n) ≡ true
decimal-lacks c n low small =
    decimal_by_steps (λ (m : ℕ) (ds : List ℕ). lacks c ds ≡ true)
    (λ m l. both-so (not (48 + m == c)) true (apart (48 + m) c (λ is. omega arith)) refl)
    (λ m ds l more. lacks-append c ds ((48 + m % 10) ∷ []) more (both-so (not (48 + m % 10 == c)) true (apart (48 + m % 10) c (λ is. omega arith)) refl))
    n small

digit-lacks : (c : ℕ) (t : List ℕ) (k : ℕ) → 0 < c → lacks c t ≡ true → not (get_or t k 0 == c) ≡ true
digit-lacks c [] k some lack = apart 0 c (λ is. omega arith)
digit-lacks c (d ∷ t) zero some lack = (and_parts (not (d == c)) (lacks c t) lack).0
digit-lacks c (d ∷ t) (suc k) some lack = digit-lacks c t k some (and_parts (not (d == c)) (lacks c t) lack).1

hex-lacks : (c : ℕ) (t bytes : List ℕ) → 0 < c → lacks c t ≡ true → lacks c (encode_with t bytes) ≡ true
unfolding encode_with
hex-lacks c t [] some lack = refl
hex-lacks c t (b ∷ bytes) some lack =
    let high = digit-lacks c t (b / 16) some lack in
    let low = digit-lacks c t (b % 16) some lack in
    both-so (not (slice_index t (b / 16) == c)) (not (slice_index t (b % 16) == c) && lacks c (encode_with t bytes)) high
    (both-so (not (slice_index t (b % 16) == c)) (lacks c (encode_with t bytes)) low (hex-lacks c t bytes some lack))

digest-lacks : (text : List ℕ) → lacks 10 (digest text) ≡ true
digest-lacks text = hex-lacks 10 lower_digits (sha256 text) (omega arith) refl

-- ---- lines

-- the line of the rules, whatever comes after it
pub same-rules : (text text' rest rest' : List ℕ) → rules_line text ++ rest ≡ rules_line text' ++ rest' → (digest text ≡ digest text') × (rest ≡ rest')
same-rules text text' rest rest' is =
    let front : (d r : List ℕ) → (codes "%rules " ++ (d ++ 10 ∷ [])) ++ r ≡ codes "%rules " ++ (d ++ 10 ∷ r) = λ d r.
    append_assoc (codes "%rules ") (d ++ 10 ∷ []) r ∙ ap (λ (x : List ℕ). codes "%rules " ++ x) (append_assoc d (10 ∷ []) r) in
    let cut = append_cancel_left (codes "%rules ") (digest text ++ 10 ∷ rest) (digest text' ++ 10 ∷ rest')
    (sym (front (digest text) rest) ∙ is ∙ front (digest text') rest') in
    split 10 (digest text) (digest text') rest rest' (digest-lacks text) (digest-lacks text') cut

-- what a line says after the name
abbrev said : Option Read → List ℕ
said None = codes "-\n"
said (Some form) = decimal (length form.0.bids) ++ (32 ∷ (digest form.1 ++ 10 ∷ []))

abbrev front_of : List ℕ → List ℕ
front_of name = codes "%form " ++ (name ++ 32 ∷ [])

line-is : (name : List ℕ) (form : Option Read) → form_line name form ≡ front_of name ++ said form
line-is name None =
    ap (λ (x : List ℕ). codes "%form " ++ x) (sym (append_assoc name (32 ∷ []) (codes "-\n")))
    ∙ sym (append_assoc (codes "%form ") (name ++ 32 ∷ []) (codes "-\n"))
line-is name (Some form) =
    let more = decimal (length form.0.bids) ++ (32 ∷ (digest form.1 ++ 10 ∷ [])) in
    ap (λ (x : List ℕ). codes "%form " ++ x) (sym (append_assoc name (32 ∷ []) more))
    ∙ sym (append_assoc (codes "%form ") (name ++ 32 ∷ []) more)

-- the bytes that two forms have are the same ones, or different ones of one digest; and if one is there, the other is
abbrev pub AreAlike : Option Read → Option Read → Type 0
AreAlike None None = ⊤
AreAlike (Some form) (Some form') = digest form.1 ≡ digest form'.1
AreAlike one other = ⊥

abbrev pub IsFewBids : Option Read → Type 0
IsFewBids None = ⊤
IsFewBids (Some form) = length form.0.bids < 2 ^ 64

said-more : (form : Read) (rest : List ℕ) → said (Some form) ++ rest ≡ decimal (length form.0.bids) ++ 32 ∷ (digest form.1 ++ 10 ∷ rest)
said-more form rest =
    append_assoc (decimal (length form.0.bids)) (32 ∷ (digest form.1 ++ 10 ∷ [])) rest
    ∙ ap (λ (x : List ℕ). decimal (length form.0.bids) ++ 32 ∷ x) (append_assoc (digest form.1) (10 ∷ []) rest)

-- a hyphen begins no number
no-hyphen : {A : Type 0} (ds more rest : List ℕ) → lacks 45 ds ≡ true → 45 ∷ rest ≡ ds ++ 32 ∷ more → A
no-hyphen [] more rest lack is = clash 32 45 refl (sym (heads 45 32 rest more is))
no-hyphen (d ∷ ds) more rest lack is = clash d 45 (and_parts (not (d == 45)) (lacks 45 ds) lack).0 (sym (heads 45 d rest (ds ++ 32 ∷ more) is))

same-said : (one other : Option Read) (rest rest' : List ℕ) → IsFewBids one → IsFewBids other → said one ++ rest ≡ said other ++ rest'
    → AreAlike one other × (rest ≡ rest')
same-said None None rest rest' few few' is = (tt, append_cancel_left (codes "-\n") rest rest' is)
same-said (Some f) (Some f') rest rest' few few' is =
    let whole = sym (said-more f rest) ∙ is ∙ said-more f' rest' in
    let (number, more) = split 32 (decimal (length f.0.bids)) (decimal (length f'.0.bids)) (digest f.1 ++ 10 ∷ rest) (digest f'.1 ++ 10 ∷ rest')
    (decimal-lacks 32 (length f.0.bids) (omega arith) few) (decimal-lacks 32 (length f'.0.bids) (omega arith) few') whole in
    split 10 (digest f.1) (digest f'.1) rest rest' (digest-lacks f.1) (digest-lacks f'.1) more
same-said None (Some f) rest rest' few few' is =
    no-hyphen (decimal (length f.0.bids)) (digest f.1 ++ 10 ∷ rest') (10 ∷ rest) (decimal-lacks 45 (length f.0.bids) (omega arith) few')
    (is ∙ said-more f rest')
same-said (Some f) None rest rest' few few' is =
    no-hyphen (decimal (length f.0.bids)) (digest f.1 ++ 10 ∷ rest) (10 ∷ rest') (decimal-lacks 45 (length f.0.bids) (omega arith) few)
    (sym is ∙ said-more f rest)

abbrev pub lines : List Read → ℕ → List Bidder → List ℕ
lines forms k bidders = in_turn (λ number (bidder : Bidder). form_line bidder.name (last_form number forms)) k bidders

-- the lines of bidders
pub same-lines : (forms forms' : List Read) (bidders : List Bidder) (k : ℕ) → ((b : ℕ) → k ≤ b → b < k + length bidders → IsFewBids (last_form b forms))
    → ((b : ℕ) → k ≤ b → b < k + length bidders → IsFewBids (last_form b forms'))
    → lines forms k bidders ≡ lines forms' k bidders → (b : ℕ) → k ≤ b → b < k + length bidders → AreAlike (last_form b forms) (last_form b forms')
same-lines forms forms' [] k few few' is b least most = absurd (omega arith)
same-lines forms forms' (bidder ∷ more) k few few' is b least most =
    let rest = lines forms (k + 1) more in
    let rest' = lines forms' (k + 1) more in
    let front = front_of bidder.name in
    let parted : (form : Option Read) (r : List ℕ) → form_line bidder.name form ++ r ≡ front ++ (said form ++ r) = λ form r.
    ap (λ (x : List ℕ). x ++ r) (line-is bidder.name form) ∙ append_assoc front (said form) r in
    let cut = append_cancel_left front (said (last_form k forms) ++ rest) (said (last_form k forms') ++ rest')
    (sym (parted (last_form k forms) rest) ∙ is ∙ parted (last_form k forms') rest') in
    let (here, there) = same-said (last_form k forms) (last_form k forms') rest rest' (few k (omega arith) (omega arith)) (few' k (omega arith) (omega arith)) cut in
    elim (cases_Bool (b == k)) [
      | inl own ↦
          let at : b ≡ k = eqb-true b k own in
          subst (λ (n : ℕ). AreAlike (last_form n forms) (last_form n forms')) (sym at) here
      | inr other ↦
          let later : b ≢ k = λ is. clash b k (ap not other) is in
          same-lines forms forms' more (k + 1) (λ n l m. few n (omega arith) (omega arith)) (λ n l m. few' n (omega arith) (omega arith)) there b
          (omega arith) (omega arith)
    ]
