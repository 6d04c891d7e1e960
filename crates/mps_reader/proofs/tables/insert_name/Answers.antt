use Rattle.std.proofs.Common.{◌∙◌, ap, not}
use Rattle.mps_reader.proofs.NameFacts.{any-names, inserted, distinct-bytes}
use Rattle.mps_reader.proofs.tables.insert_name.Goals as goal

pub returns-clause-new : goal.returns-clause-new
returns-clause-new c = c.in_ok-is_new.ensures.added ∙ ap not (any-names c.args.name.now c.args.names.now.keys)

pub returns-clause-names : goal.returns-clause-names
returns-clause-names c =
    inserted c.args.names.now.keys c.insert_full.new.self.keys c.args.name c.in_ok-is_new.is_new c.in_ok-is_new.ensures.keys c.in_ok-is_new.ensures.added

pub returns-clause-distinct : goal.returns-clause-distinct
returns-clause-distinct c = distinct-bytes c.insert_full.new.self.keys c.in_ok-is_new.ensures.unique
