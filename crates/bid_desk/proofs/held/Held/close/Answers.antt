use Rattle.std.proofs.Common.{◌≡◌, ◌≢◌, [], ◌∷◌, ◌++◌, ap, sym, subst, ◌∙◌, arith, length, length-append, map}
use Rattle.std.proofs.lemmas.Bool.{both_ways}
use Rattle.std.proofs.lemmas.List.Elements.{All-push}
use Rattle.bid_forms.specs.Offers.{Offers}
use Rattle.bid_book.specs.declared.call.Caller.TheVariants.{Chair}
use Rattle.bid_book.specs.declared.call.Call.TheVariants.{Close}
use Rattle.bid_book.specs.declared.reply.Reply.TheVariants.{CallLimit}
use Rattle.bid_book.specs.declared.records.Entry.{Entry}
use Rattle.bid_book.specs.declared.reply.Reply.{Reply}
use Rattle.bid_book.specs.History.{reply_value}
use Rattle.bid_book.proofs.HistoryFacts.{answer-close_not_shown}
use Rattle.bid_desk.specs.Holding.{ChairOwn, Holding, IsEntryOf, IsRecordedByChair, pair_value}
use Rattle.bid_desk.proofs.HeldFacts.{one-pair-more, share-is}
use Rattle.bid_desk.proofs.held.Held.close.Goals as goal

pub same_reply-requires : goal.same_reply-requires
same_reply-requires g c s shown =
    absurd (answer-close_not_shown c.self.inside.book s (sym c.in_ok-reply.ensures.answered ∙ shown))

pub invariant_of-self-2 : goal.invariant_of-self-2
invariant_of-self-2 g c =
    let less : reply_value c.in_ok-reply.reply ≢ CallLimit = λ limit. both_ways _ c.if-is_call_limit.false (c.is_call_limit.ensures.1 limit) in
    let entry : Entry Offers = record { caller = Chair; call = Close; reply = reply_value c.in_ok-reply.reply } in
    let is : c.step.new.self ≡ c.self.inside.book ++ entry ∷ [] = c.in_ok-reply.ensures.recorded less in (
      omega (arith, c.add.ensures.total, c.self.invariant.0, ap length is, length-append c.self.inside.book (entry ∷ [])),
      rw is (All-push (IsEntryOf g.L.Round.rules) c.self.inside.book entry c.self.invariant.1 (record { caller = tt; form = tt })),
    )

pub returns-clause-recorded : goal.returns-clause-recorded
returns-clause-recorded g c = λ less.
    let reply = reply_value c.in_ok-reply.reply in
    let before : Holding = record { history = c.self.inside.book; count = c.self.inside.count.total } in
    let after : Holding = record { history = c.step.new.self; count = c.add.new.self.total } in
    let chair : ChairOwn = record { pairs = map pair_value c.chair.inside.own.items; share = c.chair.inside.share.amount } in
    let chair' : ChairOwn = record { pairs = map pair_value c.push_pair.new.own.items; share = c.add.new.share.amount } in
    let recorded : IsRecordedByChair before after chair chair' Close reply = record {
      history = c.in_ok-reply.ensures.recorded less;
      count = c.add.ensures.total;
      own_is = one-pair-more c.chair.inside.own.items c.reserve.new.self.items c.push_pair.new.own.items (Close, c.same_reply.result)
          (Close, reply) c.in_ok-reserve.ensures.items c.push_pair.ensures
          (ap (λ (r : Reply Offers). (Close, r)) c.same_reply.ensures);
      share_is = c.add.ensures.amount;
    } in
    subst (λ (h : Holding). IsRecordedByChair h after c.args.chair.now chair' Close reply) c.self.view_is
    (subst (λ (k : ChairOwn). IsRecordedByChair before after k chair' Close reply) c.chair.view_is recorded)

pub invariant_of-chair-2 : goal.invariant_of-chair-2
invariant_of-chair-2 g c = (
  share-is c.chair.inside.own c.reserve.new.self c.push_pair.new.own (Close, c.same_reply.result) c.chair.inside.share.amount
      c.add.new.share.amount c.in_ok-reserve.ensures.items c.push_pair.ensures c.add.ensures.amount
      c.chair.invariant.0,
  omega (arith, c.add.ensures.parts, c.chair.invariant.1),
)
