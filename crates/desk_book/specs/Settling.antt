-- The input of a closed round.
use Rattle.std.specs.Prelude.{ℕ, List, [], ◌≡◌, ◌++◌, Option, Some, None, zero, suc, codes}
use Rattle.bid_book.specs.History.{standing_of}
use Rattle.bid_book.specs.declared.records.Entry.{Entry}
use Rattle.bid_book.specs.declared.standing.Standing.{Standing}
use Rattle.desk_book.specs.Digests.{commit}
use Rattle.desk_book.specs.declared.commitment.Commitment.{Commitment}

-- an input gets what stands of a bidder: a text that has its commitment, with some salt; nothing, where nothing stands
abbrev pub IsPartAdded : Option (Standing Commitment) → List ℕ → List ℕ → Type 0
IsPartAdded None old new = new ≡ old
IsPartAdded (Some standing) old new = (salt text : List ℕ) × (commit salt text ≡ standing.form.commit) × (new ≡ old ++ codes "%form\n" ++ text)

module _ (history : List (Entry Commitment)) where
  -- what an input has of so many bidders, in their order
  abbrev pub AreOpened : ℕ → List ℕ → Type 0
  AreOpened zero parts = parts ≡ []
  AreOpened (suc n) parts = (before : List ℕ) × AreOpened n before × IsPartAdded (standing_of history (suc n)) before parts

-- an input has the rules, and of each of so many bidders what stands, as opened
pub record IsSettledInput (history : List (Entry Commitment)) (rules : List ℕ) (bidders : ℕ) (input : List ℕ) : Type 0 where
  pub parts : List ℕ
  pub input_is : input ≡ codes "%rules\n" ++ rules ++ parts
  pub opened : AreOpened history bidders parts
