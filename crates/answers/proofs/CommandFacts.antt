-- What commands write, and why they don't.
use Rattle.std.proofs.Common.{◌≡◌, ◌≤◌, ◌<◌, ◌+◌, ◌-◌, ◌++◌, ◌∷◌, ◌∙◌, [], ℕ, zero, suc, List, Option, None, Some, Result}
use Rattle.std.proofs.Common.{Ok, ap, arith, length, length-append, map, refl, slice_index_or, sym, take, inl, inr}
use Rattle.std.proofs.lemmas.Bool.Decides.{leb_tells}
use Rattle.auction_terms.specs.declared.bids.Choice.{Choice}
use Rattle.bid_desk.specs.Closing.{Closing}
use Rattle.group_compiler.specs.Compiled.{GroupProgram, compiled, program_without}
use Rattle.byte_sinks.specs.Sinks.{GoesInPart, Outlet, SentFront, written_of}
use Rattle.byte_sinks.specs.declared.writer.WriteFault.{WriteFault}
use Rattle.byte_sinks.specs.declared.writer.WriteFault.TheVariants as write
use Rattle.outcome.specs.Report.{allocation_text, in_turn}
use Rattle.bid_desk.specs.Sale.{sale_of}
use Rattle.program_rows.specs.Program.{Table}
use Rattle.auction_input.specs.Refused.{Refuses}
use Rattle.auction_input.specs.Settled.{held}
use Rattle.answers.specs.Exact.{Ends, by_put}
use Rattle.answers.specs.GroupTexts.{EndsIn, program_bytes, programs_bytes, program_text}
use Rattle.answers.specs.Answer.{output_of}
use Rattle.auction_input.specs.declared.refusal.Refusal.{Refusal}
use Rattle.auction_terms.specs.Lines.{bytes_of}
use Rattle.auction_input.specs.ParsedParts.{only_text}
use Rattle.auction_terms.specs.Stages.{and_then}
use Rattle.answers.specs.SolutionWinners.{winners_by}
use Rattle.auction_input.specs.declared.auction.Auction as declared
use Rattle.auction_input.specs.declared.refusal.Refusal.TheVariants as refusal
use Rattle.auction_input.specs.declared.request.Request.TheVariants as request
use Rattle.auction_input.proofs.StageFacts.{next, refuses-as, stop}

-- a put failed
pub cut-short : (parsed : Result (List ℕ) Refusal) (out : List ℕ) (before after : Outlet) (f : WriteFault) → parsed ≡ Ok out
    → GoesInPart before after out (written_of f) → Ends parsed before after (refusal.Write f)
cut-short parsed out before after (write.Sink written) whole part = by_put out whole part

-- the programs of groups are made of their groups
pub of-groups : (book : Closing) (k : ℕ) (groups : List (List ℕ))
    → in_turn (program_text (sale_of book)) k groups ≡ in_turn (program_bytes book) k (map (compiled book) groups)
of-groups book k [] = refl
of-groups book k (group ∷ groups) = ap (λ (more : List ℕ). program_text (sale_of book) k group ++ more) (of-groups book (k + 1) groups)

-- the first items have no more bytes than all
fewer-bytes : {X : Type 0} (bytes : ℕ → X → List ℕ) (k n : ℕ) (xs : List X) → length (in_turn bytes k (take n xs)) ≤ length (in_turn bytes k xs)
fewer-bytes bytes k zero xs = omega arith
fewer-bytes bytes k (suc n) [] = omega arith
fewer-bytes bytes k (suc n) (x ∷ xs) =
    let rest = fewer-bytes bytes (k + 1) n xs in
    let first = length-append (bytes k x) (in_turn bytes (k + 1) (take n xs)) in
    let all = length-append (bytes k x) (in_turn bytes (k + 1) xs) in
    omega arith

-- what went out before a fault in the text of a group is a front of all texts
pub sent-front : (book : Closing) (programs : List GroupProgram) (group written : ℕ) (taken taken' : Option (List ℕ))
    → EndsIn book programs group written taken taken'
    → SentFront taken taken' (programs_bytes book programs) written
sent-front book programs group written None taken' ends = tt
sent-front book programs group written (Some before) None ends = ends
sent-front book programs group written (Some before) (Some after) (n, sent, count, least, most) =
    let few = fewer-bytes (program_bytes book) 1 group programs in
    (n, omega arith, sent, count)

-- ---- what the one solution wins

module _ (auction : declared.Auction) (k : ℕ) (solution : List ℕ) (within : k ≤ length auction.groups)
    (only : solution ≡ only_text (bytes_of auction.solutions.items)) where
  abbrev program : Table
  program = program_without auction.book (slice_index_or auction.groups (k - 1) [])

  goes-on : output_of (request.Map k) (held auction) ≡ and_then (winners_by program 1 solution) (λ won. Ok (allocation_text (sale_of auction.book) won))
  goes-on = elim (leb_tells k (length auction.groups)) [
    | inl (is, _) ↦ (rw is (ap (λ (text : List ℕ). and_then (winners_by program 1 text) (λ won. Ok (allocation_text (sale_of auction.book) won))) (sym only)))
    | inr (_, more) ↦ absurd (omega arith)
  ]

  pub winners-written : (a : List Choice) → winners_by program 1 solution ≡ Ok a
      → output_of (request.Map k) (held auction) ≡ Ok (allocation_text (sale_of auction.book) a)
  winners-written a won = goes-on ∙ next _ _ _ _ won refl

  pub winners-refused : (r : Refusal) → Refuses (winners_by program 1 solution) r → Refuses (output_of (request.Map k) (held auction)) r
  winners-refused r refused = refuses-as _ _ r goes-on (stop _ _ r refused)

pub no-group : (auction : declared.Auction) (k : ℕ) → length auction.groups < k → Refuses (output_of (request.Map k) (held auction)) (refusal.NoGroup k)
no-group auction k few = elim (leb_tells k (length auction.groups)) [ inl (_, most) ↦ absurd (omega arith) | inr (is, _) ↦ inl (rw is refl) ]
