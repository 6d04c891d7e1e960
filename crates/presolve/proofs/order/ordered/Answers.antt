use Rattle.std.proofs.Common.{rules, arith}
use Rattle.std.proofs.lemmas.Fn.{always_returns_same}
use Rattle.std.proofs.lemmas.List.Sorted.{All-permutation}
use Rattle.auction_terms.specs.Terms.{lots_in}
use Rattle.presolve.specs.inside.Sizes.{TellsItsNet, TellsItsSize}
use Rattle.presolve.specs.Sizes.{IsUpTo}
use Rattle.presolve.specs.declared.order.SizedBid.{SizedBid}
use Rattle.presolve.proofs.SizeFacts.{up_to, up_to_trans, all_pairs}
use Rattle.presolve.proofs.order.ordered.Goals as goal

pub returns : goal.returns
returns c =
    let sort = c.sort_unstable_by_key.ensures in
    let rising = sort.sorted (λ (s : SizedBid). (s.size, s.number)) (always_returns_same _ _ _ (λ a r f k. search rules)) in
    record {
      fitting = c.in_ok-ordered.ordered.items;
      same = c.in_ok-ordered.ensures.same;
      moved = sort.permutation;
      rising = all_pairs (λ (s t : SizedBid). IsUpTo s.size s.number t.size t.number)
          (λ s t u h k. up_to_trans s.size s.number t.size t.number u.size u.number h k) c.sort_unstable_by_key.new.self.items
          (λ k d l. up_to _ _ _ _ (rising k d (omega arith) l));
      reported = All-permutation TellsItsSize c.in_ok-ordered.ordered.items c.sort_unstable_by_key.new.self.items sort.permutation
          c.in_ok-ordered.ensures.reported;
      nets = All-permutation (TellsItsNet (lots_in c.args.rules.now)) c.in_ok-ordered.ordered.items c.sort_unstable_by_key.new.self.items
          sort.permutation c.in_ok-ordered.ensures.nets;
    }
