use Rattle.std.proofs.Common.{◌<◌, ◌≤◌, ◌++◌, ◌∷◌, [], ℕ, List, map, nat_lt, sym, ◌∙◌, ap, subst, append-nil, lt-ltb, le-ltb}
use Rattle.std.specs.Prelude.{All}
use Rattle.std.proofs.lemmas.Bool.{cond-true, cond-false}
use Rattle.std.proofs.lemmas.List.{map-append}
use Rattle.std.proofs.lemmas.List.Elements.{All-push}
use Rattle.group_compiler.proofs.work.add_made.Goals as goal

pub returns-then-number-count : goal.returns-then-number-count
returns-then-number-count g c =
    let count = g.M.Maker.count_of c.args.maker.now in
    let n = c.args.number in
    let above : count ≤ n = subst (λ (m : ℕ). m ≤ n) c.count-count.ensures.count c.if-number-count.true in
    record {
      numbers = sym (append-nil _) ∙ ap (λ (xs : List ℕ). map (λ r. r.number) c.args.results.now.items ++ xs)
          (sym (cond-false (nat_lt n count) (n ∷ []) [] (le-ltb n count above)));
      made = λ h. h;
    }

pub returns : goal.returns
returns g c =
    let count = g.M.Maker.count_of c.args.maker.now in
    let makes = g.M.Maker.makes c.args.maker.now in
    let n = c.args.number in
    let old = c.args.results.now.items in
    let r = c.in_ok-make_numbered.field-0 in
    let items = c.in_ok-push.ensures.items in
    let below : n < count = subst (λ (m : ℕ). n < m) c.count-count.ensures.count c.if-number-count.false in
    let right = subst (λ (m : ℕ). makes m r.made) (sym c.in_ok-make_numbered.ensures.number) c.in_ok-make_numbered.ensures.made in
    record {
      numbers = ap (λ rs. map (λ r. r.number) rs) items ∙ map-append (λ r. r.number) old (r ∷ [])
          ∙ ap (λ (k : ℕ). map (λ r. r.number) old ++ k ∷ []) c.in_ok-make_numbered.ensures.number
          ∙ ap (λ (xs : List ℕ). map (λ r. r.number) old ++ xs) (sym (cond-true (nat_lt n count) (n ∷ []) [] (lt-ltb n count below)));
      made = λ h. subst (λ rs. All (λ r. makes r.number r.made) rs) (sym items) (All-push (λ r. makes r.number r.made) old r h right);
    }
