-- The lines, in words or of JSON, that print which bids are in no program, and why, and which forms others replace.
use Rattle.std.specs.Prelude.{◌++◌, ◌∷◌, ◌==◌, ℕ, List, Option, [], codes, decimal, None, filter, flat_map, if◌then◌else◌, map}
use Rattle.std.specs.List.{enumerate_from, last_or}
use Rattle.std.specs.Option.{option_map_or}
use Rattle.auction_terms.specs.Terms.{Terms}
use Rattle.bid_desk.specs.Sale.{bidder_name}
use Rattle.byte_sinks.specs.declared.json.Format.{Format}
use Rattle.byte_sinks.specs.declared.json.Format.TheVariants as format
use Rattle.presolve.specs.Names.{category_name, pool_name}
use Rattle.presolve.specs.Objects.{left_out_object, replaced_object}
use Rattle.presolve.specs.declared.reason.Reason.{Reason}
use Rattle.presolve.specs.declared.reason.Reason.TheVariants as reason

-- what is reported of a reason
abbrev pub reason_text : Terms → Reason → List ℕ
reason_text t (reason.OverSupply category asked supply) = codes " asks for " ++
    (decimal asked ++ (codes " of " ++ (category_name t category ++ (codes ", of which there are " ++ decimal supply))))
reason_text t (reason.OverCap pool load cap) =
    codes " loads pool " ++ (pool_name t pool ++ (codes " with " ++ (decimal load ++ (codes ", above its cap of " ++ decimal cap))))
reason_text t (reason.BelowWorth less) = codes " brings " ++ (decimal less ++ codes " less than its lots are worth unsold")
reason_text t (reason.Dominated by) = codes " is dominated by bid " ++ decimal by

-- the line of a bid: its bidder, its number and the reason
abbrev pub left_out_line : Terms → ℕ → ℕ → Reason → List ℕ
left_out_line t bidder number why = (bidder_name (map (λ b. b.name) t.bidders) bidder ++ (codes ": bid " ++ decimal number)) ++ (reason_text t why ++ 10 ∷ [])

-- what is printed of a bid: its line in words, or its object
abbrev pub left_out : Format → Terms → ℕ → ℕ → Reason → List ℕ
left_out format.Words t bidder number why = left_out_line t bidder number why
left_out format.Json t bidder number why = left_out_object t bidder number why

-- the lines of a bidder's form, for each bid that there is a reason for, by rising number
abbrev pub form_lines : Format → Terms → ℕ → List (Option Reason) → List ℕ
form_lines f t bidder reasons =
    flat_map (λ (numbered : ℕ × Option Reason). option_map_or (left_out f t bidder numbered.0) numbered.1 []) (enumerate_from 1 reasons)

-- the numbers, from 1, of a bidder's forms, where these are the bidders of all forms in their order
abbrev pub forms_by : List ℕ → ℕ → List ℕ
forms_by bidders bidder = map (λ (numbered : ℕ × ℕ). numbered.0) (filter (λ (numbered : ℕ × ℕ). numbered.1 == bidder) (enumerate_from 1 bidders))

-- the line of a bidder's form that its last one replaces
abbrev pub replaced_line : Terms → ℕ → ℕ → ℕ → List ℕ
replaced_line t bidder last number = bidder_name (map (λ b. b.name) t.bidders) bidder ++
    (codes ": form " ++ (decimal number ++ (codes " is replaced by form " ++ (decimal last ++ 10 ∷ []))))

-- what is printed of a form that is replaced: its line in words, or its object
abbrev pub replaced : Format → Terms → ℕ → ℕ → ℕ → List ℕ
replaced format.Words t bidder last number = replaced_line t bidder last number
replaced format.Json t bidder last number = replaced_object t bidder last number

-- the lines of all forms of a bidder that its last one replaces
abbrev pub replaced_lines : Format → Terms → List ℕ → ℕ → List ℕ
replaced_lines f t bidders bidder = option_map_or (λ last. flat_map
    (λ number. if number == last then [] else replaced f t bidder last number) (forms_by bidders bidder))
    (last_or None (forms_by bidders bidder)) []

-- the lines of a book, bidder by bidder: of its forms that are replaced, and of the bids in its last one
abbrev pub left_out_lines : Format → Terms → List ℕ → List (List (Option Reason)) → List ℕ
left_out_lines f t bidders reasons = flat_map (λ (numbered : ℕ × List (Option Reason)). replaced_lines f t bidders numbered.0 ++
    form_lines f t numbered.0 numbered.1) (enumerate_from 1 reasons)
