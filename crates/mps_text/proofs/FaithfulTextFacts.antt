-- The text of the program of the kept bids is faithful.
use Rattle.std.proofs.Common.{◌≡◌, ℕ, List, Ok, subst}
use Rattle.auction_terms.specs.Keeping.{kept_of}
use Rattle.auction_terms.proofs.LimitFacts.{kept_are_offers}
use Rattle.program_rows.specs.Program.{Table}
use Rattle.program_rows.specs.Faithful.{IsFaithful}
use Rattle.program_rows.specs.Rows.{program_of}
use Rattle.program_rows.specs.MpsMeaning.{meaning}
use Rattle.program_rows.proofs.FaithfulFacts.{presolved_is_faithful, least_is_greatest}
use Rattle.program_rows.proofs.LegalFacts.{built_is_legal}
use Rattle.mps_text.proofs.RoundTripFacts.{text-is_read}
use Rattle.mps_text.specs.FaithfulText.{PresolvedTextIsFaithful, LeastOfTextIsGreatest}

pub presolved_text_is_faithful : PresolvedTextIsFaithful
presolved_text_is_faithful lots book group l h =
    let p = program_of lots (kept_of lots book group) in
    let legal = built_is_legal lots (kept_of lots book group) l (kept_are_offers lots book group h) in record {
      program = p;
      meant = text-is_read p legal.program legal.writable;
      faithful = presolved_is_faithful lots book group h;
    }

same_program : (p q : Table) (bytes : List ℕ) → meaning bytes ≡ Ok p → meaning bytes ≡ Ok q → p ≡ q
same_program p q bytes e f = cc

pub least_of_text_is_greatest : LeastOfTextIsGreatest
least_of_text_is_greatest lots book group bytes h program meant values is_point least =
    let same : h.program ≡ program = same_program h.program program bytes h.meant meant in
    least_is_greatest lots book group program (subst (λ (p : Table). IsFaithful lots book group p) same h.faithful) values is_point least
