use Rattle.std.proofs.Common.{◌≡◌, ◌≢◌, [], ◌∷◌, ◌++◌, ap, ap₂, sym, subst, ◌∙◌, arith, length, length-append, map}
use Rattle.std.proofs.lemmas.Bool.{both_ways}
use Rattle.std.proofs.lemmas.List.Elements.{All-push}
use Rattle.bid_book.specs.declared.call.Caller.TheVariants.{Session}
use Rattle.bid_book.specs.declared.reply.Reply.TheVariants.{CallLimit}
use Rattle.bid_forms.specs.Offers.{Offers}
use Rattle.bid_book.specs.declared.call.Call.{Call}
use Rattle.bid_book.specs.declared.records.Entry.{Entry}
use Rattle.bid_book.specs.declared.reply.Reply.{Reply}
use Rattle.bid_book.specs.History.{call_value, reply_due, reply_value}
use Rattle.bid_book.proofs.HistoryFacts.{answer-shown}
use Rattle.bid_desk.specs.Holding.{Holding, IsEntryOf, IsRecordedBy, SessionOwn, caller_of, pair_value}
use Rattle.bid_desk.proofs.HeldFacts.{one-pair-more, share-is}
use Rattle.bid_desk.proofs.held.Held.make.Goals as goal

pub same_reply-requires : goal.same_reply-requires
same_reply-requires g c s shown =
    c.in_ok-shared_call.ensures.1
    ∙ answer-shown c.self.inside.book c.session.inside.bidder c.session.inside.session (call_value c.args.call) s (sym c.in_ok-reply.ensures.answered ∙ shown)

pub invariant_of-self-2 : goal.invariant_of-self-2
invariant_of-self-2 g c =
    let less : reply_value c.in_ok-reply.reply ≢ CallLimit = λ limit. both_ways _ c.if-is_call_limit.false (c.is_call_limit.ensures.1 limit) in
    let entry : Entry Offers = record {
      caller = Session c.session.inside.bidder c.session.inside.session;
      call = call_value c.args.call;
      reply = reply_value c.in_ok-reply.reply;
    } in
    let is : c.step.new.self ≡ c.self.inside.book ++ entry ∷ [] = c.in_ok-reply.ensures.recorded less in (
      omega (arith, c.add.ensures.total, c.self.invariant.0, ap length is, length-append c.self.inside.book (entry ∷ [])),
      rw is (All-push (IsEntryOf g.L.Round.rules) c.self.inside.book entry c.self.invariant.1
          (record { caller = c.session.invariant.2; form = c.requires.meets })),
    )

pub returns-clause-recorded : goal.returns-clause-recorded
returns-clause-recorded g c = λ less.
    let call = call_value c.args.call in
    let reply = reply_value c.in_ok-reply.reply in
    let s = c.session.inside in
    let before : Holding = record { history = c.self.inside.book; count = c.self.inside.count.total } in
    let after : Holding = record { history = c.step.new.self; count = c.add.new.self.total } in
    let session : SessionOwn = record { bidder = s.bidder; session = s.session; pairs = map pair_value s.own.items; share = s.share.amount } in
    let session' : SessionOwn =
    record { bidder = s.bidder; session = s.session; pairs = map pair_value c.push_pair.new.own.items; share = c.add.new.share.amount }
    in
    let recorded : IsRecordedBy before after session session' call reply = record {
      history = c.in_ok-reply.ensures.recorded less;
      count = c.add.ensures.total;
      own_is = one-pair-more s.own.items c.reserve.new.self.items c.push_pair.new.own.items
          (c.in_ok-shared_call.shared_call, c.same_reply.result) (call, reply) c.in_ok-reserve.ensures.items c.push_pair.ensures
          (ap₂ (λ (k : Call Offers) (r : Reply Offers). (k, r)) c.in_ok-shared_call.ensures.0 c.same_reply.ensures);
      share_is = c.add.ensures.amount;
    } in
    subst (λ (h : Holding). IsRecordedBy h after c.args.session.now session' call reply) c.self.view_is
    (subst (λ (k : SessionOwn). IsRecordedBy before after k session' call reply) c.session.view_is recorded)

pub returns-clause-answered : goal.returns-clause-answered
returns-clause-answered g c =
    c.in_ok-reply.ensures.answered ∙ ap₂ (λ (h : Holding) (s : SessionOwn). reply_due h.history (caller_of s) (call_value c.args.call))
    c.self.view_is c.session.view_is

pub returns-then-is_call_limit-clause-answered : goal.returns-then-is_call_limit-clause-answered
returns-then-is_call_limit-clause-answered g c =
    c.in_ok-reply.ensures.answered ∙ ap₂ (λ (h : Holding) (s : SessionOwn). reply_due h.history (caller_of s) (call_value c.args.call))
    c.self.view_is c.session.view_is

pub invariant_of-session-2 : goal.invariant_of-session-2
invariant_of-session-2 g c = (
  share-is c.session.inside.own c.reserve.new.self c.push_pair.new.own (c.in_ok-shared_call.shared_call, c.same_reply.result)
      c.session.inside.share.amount c.add.new.share.amount c.in_ok-reserve.ensures.items c.push_pair.ensures
      c.add.ensures.amount c.session.invariant.0,
  omega (arith, c.add.ensures.parts, c.session.invariant.1),
  c.session.invariant.2,
)
