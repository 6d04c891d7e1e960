use Rattle.std.proofs.Common.{None, arith}
use Rattle.presolve.specs.inside.Sizes.{beats}
use Rattle.presolve.proofs.RivalFacts.{first-is}
use Rattle.presolve.proofs.SieveFacts.{none_marked, only_marked}
use Rattle.presolve.proofs.search.first_sifted.Goals as goal

pub sift-requires-clause-within : goal.sift-requires-clause-within
sift-requires-clause-within c = λ k sieve inside. (c.requires.sieves k sieve inside).places c.args.place c.requires.within

pub sift-requires-clause-long : goal.sift-requires-clause-long
sift-requires-clause-long c = λ k sieve within r level inside. (let long = (c.requires.sieves k sieve within).long r level inside in
    let few = c.requires.long in omega arith)

pub returns-then-sift-clause-first : goal.returns-then-sift-clause-first
returns-then-sift-clause-first c =
    let bid = c.args.bid.now in
    let rivals = c.args.rivals.now in
    let sifting = c.sift.ensures.sifts rivals bid c.requires.sieves c.requires.within c.requires.bid c.requires.sifts in
    first-is (beats bid) rivals bid c.first_left.result c.first_left.ensures.beaten
    (λ i within small. only_marked bid rivals c.sift.new.left i bid sifting within (λ marked. c.first_left.ensures.unbeaten i bid marked small))

pub returns-else-sift-clause-first : goal.returns-else-sift-clause-first
returns-else-sift-clause-first c =
    let bid = c.args.bid.now in
    let rivals = c.args.rivals.now in
    let sifting = c.sift.ensures.sifts rivals bid c.requires.sieves c.requires.within c.requires.bid c.requires.sifts in
    first-is (beats bid) rivals bid None tt
    (λ i within small. only_marked bid rivals c.sift.new.left i bid sifting within
    (λ marked. absurd (none_marked c.sift.new.left i (c.sift.ensures.none c.if-sift.false) marked)))
