-- What is reported of a refusal, put together from its words.
use Rattle.std.specs.Prelude.{◌++◌, List, ℕ}
use Rattle.auction_input.specs.declared.message.Message.{Message}
use Rattle.auction_terms.specs.Wording.{wording_text}

-- words on a part, words on the fault in it, and a name
abbrev pub message_text : Message → List ℕ
message_text parsed = wording_text parsed.part ++ (wording_text parsed.fault ++ parsed.name.now)
