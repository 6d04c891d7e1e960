use Rattle.group_compiler.proofs.JoinedFacts.{text_is_joined}
use Rattle.group_compiler.proofs.laws.a_text_is_joined_from_pages.Goals as goal

pub returns : goal.returns
returns c = text_is_joined
