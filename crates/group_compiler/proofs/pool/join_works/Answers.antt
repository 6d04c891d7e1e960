use Rattle.std.proofs.Common.{◌≡◌, ◌+◌, ◌<◌, ◌++◌, length, max, ℕ, List, map, filter, nat_lt, sym, ◌∙◌, ap, subst, arith, length-append}
use Rattle.std.specs.Prelude.{All}
use Rattle.std.proofs.lemmas.List.Elements.{All-append}
use Rattle.group_compiler.specs.inside.Works.{IsFinished}
use Rattle.group_compiler.proofs.WorkFacts.{finished_left, numbers_append}
use Rattle.group_compiler.proofs.pool.join_works.Goals as goal

pub returns : goal.returns
returns g c =
    let count = g.M.Maker.count_of c.args.maker.now in
    let groups = g.M.Maker.groups_of c.args.maker.now in
    let makes = g.M.Maker.makes c.args.maker.now in
    let is_past = g.G.Stop.is_past c.args.stop.now in
    let a = c.requires.mine in
    let b = c.requires.theirs in
    let mine = c.args.mine.claim.drawn in
    let theirs = c.args.theirs.claim.drawn in
    let new : c.join.new.claim.drawn ≡ mine ++ theirs = c.join.ensures.drawn in
    let long : length c.join.new.claim.drawn ≡ length mine + length theirs = ap (λ (xs : List ℕ). length xs) new ∙ length-append mine theirs in
    let items : c.append.new.self.items ≡ c.args.mine.results.items ++ c.args.theirs.results.items = c.in_ok-append.ensures.items in (
      record {
        same = c.join.ensures.same;
        numbers = ap (λ rs. map (λ r. r.number) rs) items
            ∙ numbers_append count c.args.mine.results.items c.args.theirs.results.items mine theirs a.numbers b.numbers
            ∙ ap (λ (xs : List ℕ). filter (λ n. nat_lt n count) xs) (sym new);
        results = subst (λ rs. All (λ r. makes r.number r.made) rs) (sym items)
            (All-append (λ r. makes r.number r.made) c.args.mine.results.items c.args.theirs.results.items a.results b.results);
        past = subst (λ (xs : List ℕ). All (λ n. n < groups → is_past (n + 1)) xs) (sym new)
            (All-append (λ (n : ℕ). n < groups → is_past (n + 1)) mine theirs a.past b.past);
        finished = subst (λ (xs : List ℕ). IsFinished (max count groups) xs) (sym new) (finished_left (max count groups) mine theirs a.finished);
      },
      omega arith,
    )
