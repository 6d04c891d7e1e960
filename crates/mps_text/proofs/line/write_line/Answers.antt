use Rattle.std.proofs.Common.{◌≡◌, ◌+◌, ◌∙◌, ◌∷◌, ◌++◌, [], List, ℕ, ap, arith, take}
use Rattle.std.specs.Prelude.{decimal}
use Rattle.std.proofs.lemmas.List.{append_assoc}
use Rattle.mps_text.proofs.ShortLineFacts.{front_copied}
use Rattle.mps_text.proofs.line.write_line.Goals as goal

pub returns-clause-written : goal.returns-clause-written
returns-clause-written c =
    let before = take c.args.at c.args.lines.now in
    let front = take c.args.front_len c.args.front.now in
    let rest : List ℕ = 32 ∷ (decimal c.args.number ++ 10 ∷ []) in
    let copied : take (c.args.at + c.args.front_len) _ ≡ before ++ front = front_copied c.args.at c.args.front_len c.args.lines.now
    c.args.front.now c.copy_from_slice.new.self c.told-front (omega arith) c.requires.front c.copy_from_slice.ensures.after in
    c.write_end.ensures.written
    ∙ ap (λ (xs : List ℕ). xs ++ rest) (c.write_name.ensures.written ∙ ap (λ (xs : List ℕ). xs ++ c.args.name.now) copied)
    ∙ append_assoc (before ++ front) c.args.name.now rest
    ∙ append_assoc before front (c.args.name.now ++ rest)
