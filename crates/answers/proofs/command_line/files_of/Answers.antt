use Rattle.std.proofs.Common.{◌≡◌, ◌∙◌, [], ap, List, Option, map}
use Rattle.std.specs.Prelude.{codes, unwrap_or}
use Rattle.std.proofs.lemmas.Result.{IfOk-weaker}
use Rattle.clap.proofs.WalkLemmas.{raw_values-rows}
use Rattle.clap.specs.Words.{Text, found_of, rows_of}
use Rattle.answers.specs.Asked.{option_texts, text_of}
use Rattle.answers.proofs.command_line.files_of.Goals as goal

pub returns-in-Some : goal.returns-in-Some
returns-in-Some c =
    let named = ap (λ (o : Option (List Text)). unwrap_or o []) (c.in-Some.ensures ∙ raw_values-rows (found_of c.args.matches.now) (codes "files")) in
    IfOk-weaker c.copies_of.result _ (λ files. map text_of files.items ≡ option_texts (codes "files")
    (rows_of (found_of c.args.matches.now))) (λ files copied. copied ∙ named) c.copies_of.ensures

pub returns-in-None : goal.returns-in-None
returns-in-None c =
    let named = ap (λ (o : Option (List Text)). unwrap_or o []) (c.in-None.ensures ∙ raw_values-rows (found_of c.args.matches.now) (codes "files")) in
    ap (map text_of) c.new.ensures.items ∙ named
