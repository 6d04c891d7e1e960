use Rattle.std.proofs.Common.{inl, ◌≡◌, ◌+◌, ◌<◌, ◌≤◌, ◌++◌, ◌∷◌, [], length, ℕ, List, filter, nat_lt, sym, ◌∙◌, max, cond}
use Rattle.std.proofs.Common.{ap, ap₂, subst, arith, length-append}
use Rattle.std.specs.Prelude.{All}
use Rattle.std.proofs.Math.Nat.{le-max_left, le-max_right}
use Rattle.std.proofs.lemmas.List.Elements.{All-push, filter-append}
use Rattle.group_compiler.specs.inside.Works.{IsFinished}
use Rattle.group_compiler.proofs.WorkFacts.{finished_by, kept_no_more}
use Rattle.group_compiler.proofs.work.draw_on.Goals as goal
use Rattle.group_compiler.proofs.work.draw_on.Goals.{then-number-groups, else-number-groups}

pub loop-turn-preserved : goal.loop-turn-preserved
loop-turn-preserved g c =
    let h = c.loop-turn.invariant in
    let count = g.M.Maker.count_of c.args.maker.now in
    let groups = g.M.Maker.groups_of c.args.maker.now in
    let is_past = g.G.Stop.is_past c.args.stop.now in
    let n = c.draw-number.result in
    let old = c.loop-turn.work.claim.drawn in
    let new : c.draw-number.new.claim.drawn ≡ old ++ n ∷ [] = c.draw-number.ensures.drawn in
    let long : length c.draw-number.new.claim.drawn ≡ length old + 1 = ap (λ (xs : List ℕ). length xs) new ∙ length-append old (n ∷ []) in
    let past : n < groups → is_past (n + 1) = elim c.if-number-groups.branch [
      | then-number-groups w ↦ λ below. w.stop.ensures
      | else-number-groups w ↦ λ below. absurd (let above = w.if-number-groups.false in let g = c.groups-groups.ensures.groups in omega arith)
    ] in
    let step = c.in_ok-add_made.ensures in
    record {
      same = c.draw-number.ensures.same;
      turns = omega arith;
      whole = omega arith;
      numbers = step.numbers ∙ ap (λ (xs : List ℕ). xs ++ cond (nat_lt n count) (n ∷ []) []) h.numbers
          ∙ sym (filter-append (λ k. nat_lt k count) old (n ∷ [])) ∙ ap (λ (xs : List ℕ). filter (λ k. nat_lt k count) xs) (sym new);
      results = step.made h.results;
      past = subst (λ (xs : List ℕ). All (λ k. k < groups → is_past (k + 1)) xs) (sym new)
          (All-push (λ (k : ℕ). k < groups → is_past (k + 1)) old n h.past past);
    }

pub returns-then-number-end : goal.returns-then-number-end
returns-then-number-end g c =
    let h = c.loop-turn.invariant in
    let count = g.M.Maker.count_of c.args.maker.now in
    let groups = g.M.Maker.groups_of c.args.maker.now in
    let is_past = g.G.Stop.is_past c.args.stop.now in
    let n = c.draw-number.result in
    let old = c.loop-turn.work.claim.drawn in
    let new : c.draw-number.new.claim.drawn ≡ old ++ n ∷ [] = c.draw-number.ensures.drawn in
    let long : length c.draw-number.new.claim.drawn ≡ length old + 1 = ap (λ (xs : List ℕ). length xs) new ∙ length-append old (n ∷ []) in
    let none : length c.args.work.now.claim.drawn ≡ 0 = ap (λ (xs : List ℕ). length xs) c.requires.fresh in
    let end : c.max-end.result ≡ max count groups = c.max-end.ensures ∙ ap₂ max c.count.ensures.count c.groups-groups.ensures.groups in
    let above : max count groups ≤ n = (let l = c.if-number-end.true in omega arith) in
    let above_count : count ≤ n = (let l = le-max_left count groups in omega arith) in
    let above_groups : groups ≤ n = (let l = le-max_right count groups in omega arith) in (
      record {
        same = c.draw-number.ensures.same;
        numbers = h.numbers ∙ sym (kept_no_more count n old above_count) ∙ ap (λ (xs : List ℕ). filter (λ k. nat_lt k count) xs) (sym new);
        results = h.results;
        past = subst (λ (xs : List ℕ). All (λ k. k < groups → is_past (k + 1)) xs) (sym new)
            (All-push (λ (k : ℕ). k < groups → is_past (k + 1)) old n h.past (λ below. absurd (omega arith)));
        finished = subst (λ (xs : List ℕ). IsFinished (max count groups) xs) (sym new) (finished_by (max count groups) n old above);
      },
      omega arith,
    )

pub returns-after-loop-turn : goal.returns-after-loop-turn
returns-after-loop-turn g c =
    let h = c.loop-turn.invariant in
    let count = g.M.Maker.count_of c.args.maker.now in
    let groups = g.M.Maker.groups_of c.args.maker.now in
    let none : length c.args.work.now.claim.drawn ≡ 0 = ap (λ (xs : List ℕ). length xs) c.requires.fresh in
    let end : c.max-end.result ≡ max count groups = c.max-end.ensures ∙ ap₂ max c.count.ensures.count c.groups-groups.ensures.groups in
    let more : max count groups < length c.loop-turn.work.claim.drawn = omega arith in (
      record { same = h.same; numbers = h.numbers; results = h.results; past = h.past; finished = inl more },
      omega arith,
    )
