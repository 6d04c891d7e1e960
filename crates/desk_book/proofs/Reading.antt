-- The fields of a head line, read one after the other, are those that it has to have.
use Rattle.std.proofs.Common.{◌≡◌, ℕ, List, [], ◌∷◌, Option, Some, None, refl}
use Rattle.std.specs.Option.{option_and_then}
use Rattle.auction_terms.specs.Terms.{Terms}
use Rattle.auction_terms.specs.declared.limits.TheConstants.{TEXT_LIMIT}
use Rattle.auction_terms.specs.Numbers.{number_of}
use Rattle.desk_book.specs.declared.limits.TheConstants.{SEALED_LIMIT}
use Rattle.desk_book.specs.Calls.{close_head, digest_named, number_up_to, show_head, submit_head, withdraw_head}
use Rattle.desk_book.specs.Fronts.{rules_digest_in, rules_len_in}
use Rattle.desk_book.specs.Openings.{opening_in}
use Rattle.desk_book.specs.ReadEntries.{head_in, tail_in}
use Rattle.desk_book.specs.inside.Fields.{close_left, opening_left, head_left, tail_left, rules_digest_left, rules_len_left, show_left, submit_left, who_left, withdraw_left}

-- nothing is made where nothing is made of whatever is there
pub none_then : {X Y : Type 0} (o : Option X) → option_and_then {T = X} {U = Y} (λ x. None) o ≡ None
none_then None = refl
none_then (Some x) = refl

none_both : {X Y Z : Type 0} (o : Option X) (p : Option Y)
    → option_and_then {T = X} {U = Z} (λ x. option_and_then {T = Y} {U = Z} (λ y. None) p) o ≡ None
none_both None p = refl
none_both (Some x) p = none_then p

module _ (rules : Terms) where
  pub withdraw_same : (fields : List (List ℕ)) → withdraw_left rules fields ≡ withdraw_head rules fields
  unfolding who_left withdraw_left
  withdraw_same [] = refl
  withdraw_same (a ∷ []) = simp none_then
  withdraw_same (a ∷ b ∷ []) = simp none_then
  withdraw_same (a ∷ b ∷ c ∷ []) = simp none_then
  withdraw_same (a ∷ b ∷ c ∷ d ∷ []) = refl
  withdraw_same (a ∷ b ∷ c ∷ d ∷ e ∷ more) = simp none_then

  pub show_same : (fields : List (List ℕ)) → show_left rules fields ≡ show_head rules fields
  unfolding who_left show_left
  show_same [] = refl
  show_same (a ∷ []) = simp none_then
  show_same (a ∷ b ∷ []) = simp none_then
  show_same (a ∷ b ∷ c ∷ []) = refl
  show_same (a ∷ b ∷ c ∷ d ∷ more) = simp none_then

  pub submit_same : (fields : List (List ℕ)) → submit_left rules fields ≡ submit_head rules fields
  unfolding who_left submit_left
  submit_same [] = refl
  submit_same (a ∷ []) = simp none_then
  submit_same (a ∷ b ∷ []) = simp none_then
  submit_same (a ∷ b ∷ c ∷ []) = simp none_then
  submit_same (a ∷ b ∷ c ∷ d ∷ []) = simp none_then
  submit_same (a ∷ b ∷ c ∷ d ∷ e ∷ []) = simp none_then
  submit_same (a ∷ b ∷ c ∷ d ∷ e ∷ f ∷ []) = simp none_then
  submit_same (a ∷ b ∷ c ∷ d ∷ e ∷ f ∷ g ∷ []) = simp none_then
  submit_same (a ∷ b ∷ c ∷ d ∷ e ∷ f ∷ g ∷ h ∷ []) = refl
  submit_same (a ∷ b ∷ c ∷ d ∷ e ∷ f ∷ g ∷ h ∷ i ∷ more) = simp none_then

pub close_same : (fields : List (List ℕ)) → close_left fields ≡ close_head fields
unfolding close_left
close_same [] = refl
close_same (a ∷ []) = refl
close_same (a ∷ b ∷ more) = simp none_then

pub rules_len_same : (fields : List (List ℕ)) → rules_len_left fields ≡ rules_len_in fields
unfolding rules_len_left
rules_len_same [] = refl
rules_len_same (a ∷ []) = refl
rules_len_same (a ∷ b ∷ []) = refl
rules_len_same (a ∷ b ∷ c ∷ more) = none_then (number_up_to TEXT_LIMIT b)

pub rules_digest_same : (fields : List (List ℕ)) → rules_digest_left fields ≡ rules_digest_in fields
unfolding rules_digest_left
rules_digest_same [] = refl
rules_digest_same (a ∷ []) = refl
rules_digest_same (a ∷ b ∷ []) = refl
rules_digest_same (a ∷ b ∷ c ∷ []) = simp none_then
rules_digest_same (a ∷ b ∷ c ∷ d ∷ []) = simp none_then
rules_digest_same (a ∷ b ∷ c ∷ d ∷ e ∷ []) = simp none_then
rules_digest_same (a ∷ b ∷ c ∷ d ∷ e ∷ f ∷ []) = simp none_then
rules_digest_same (a ∷ b ∷ c ∷ d ∷ e ∷ f ∷ g ∷ []) = refl
rules_digest_same (a ∷ b ∷ c ∷ d ∷ e ∷ f ∷ g ∷ h ∷ more) = simp none_then

pub head_same : (fields : List (List ℕ)) → head_left fields ≡ head_in fields
unfolding head_left
head_same [] = refl
head_same (a ∷ []) = refl
head_same (a ∷ b ∷ []) = refl
head_same (a ∷ b ∷ c ∷ []) = refl
head_same (a ∷ b ∷ c ∷ d ∷ []) = refl
head_same (a ∷ b ∷ c ∷ d ∷ e ∷ []) = refl
head_same (a ∷ b ∷ c ∷ d ∷ e ∷ f ∷ []) = refl
head_same (a ∷ b ∷ c ∷ d ∷ e ∷ f ∷ g ∷ []) = refl
head_same (a ∷ b ∷ c ∷ d ∷ e ∷ f ∷ g ∷ h ∷ []) = refl
head_same (a ∷ b ∷ c ∷ d ∷ e ∷ f ∷ g ∷ h ∷ i ∷ []) = refl
head_same (a ∷ b ∷ c ∷ d ∷ e ∷ f ∷ g ∷ h ∷ i ∷ j ∷ []) = simp none_then
head_same (a ∷ b ∷ c ∷ d ∷ e ∷ f ∷ g ∷ h ∷ i ∷ j ∷ k ∷ []) = refl
head_same (a ∷ b ∷ c ∷ d ∷ e ∷ f ∷ g ∷ h ∷ i ∷ j ∷ k ∷ l ∷ more) = none_both (number_up_to SEALED_LIMIT j) (number_of k)

pub tail_same : (fields : List (List ℕ)) → tail_left fields ≡ tail_in fields
unfolding tail_left
tail_same [] = refl
tail_same (a ∷ []) = refl
tail_same (a ∷ b ∷ []) = refl
tail_same (a ∷ b ∷ c ∷ []) = refl
tail_same (a ∷ b ∷ c ∷ d ∷ []) = refl
tail_same (a ∷ b ∷ c ∷ d ∷ e ∷ more) = none_then (digest_named d)

pub opening_same : (fields : List (List ℕ)) → opening_left fields ≡ opening_in fields
unfolding opening_left
opening_same [] = refl
opening_same (a ∷ []) = refl
opening_same (a ∷ b ∷ []) = none_then (digest_named b)
opening_same (a ∷ b ∷ c ∷ []) = refl
opening_same (a ∷ b ∷ c ∷ d ∷ more) = none_both (digest_named b) (number_up_to TEXT_LIMIT c)
