use Rattle.std.proofs.Common.{rules, arith}
use Rattle.hall_lock.proofs.CloseLemmas.{one_longer, gathers_first, gathers_more, rest_of_lock}
use Rattle.hall_lock.specs.Told.{ended}
use Rattle.hall_lock.proofs.closing.gather.Goals as goal

pub passes-init : goal.passes-init
passes-init g c = record {
  same = search rules;
  rests = c.into_seat-seat.ensures.rests.0;
  slot = c.into_seat-seat.ensures.rests.1;
  parts = let len = one_longer c.args.passes.items c.pop.new.self.items c.in-Some.last c.in-Some.ensures.items in let one = c.into_seat-seat.ensures.rests.2 in omega arith;
  own = rest_of_lock c.args.board.now.table_id c.args.passes.items c.pop.new.self.items c.in-Some.last c.in-Some.ensures.items c.requires.own;
  joined = gathers_first ended c.args.passes.items c.pop.new.self.items c.in-Some.last _ _ c.in-Some.ensures.items c.into_seat-seat.ensures.rests.3 c.into_seat-seat.ensures.knows;
}

pub passes-preserved : goal.passes-preserved
passes-preserved g c = record {
  same = search rules;
  rests = c.take_in.ensures.same.2;
  slot = search rules;
  parts = let len = one_longer c.passes.passes.items c.pop-in-passes.new.self.items c.in-Some-pop.pass c.in-Some-pop.ensures.items in let more = c.take_in.ensures.parts in let before = c.passes.invariant.parts in omega arith;
  own = rest_of_lock c.args.board.now.table_id c.passes.passes.items c.pop-in-passes.new.self.items c.in-Some-pop.pass c.in-Some-pop.ensures.items c.passes.invariant.own;
  joined = gathers_more ended c.passes.passes.items c.pop-in-passes.new.self.items c.in-Some-pop.pass _ _ _ _ _ c.in-Some-pop.ensures.items c.take_in.ensures.joined c.take_in.ensures.knows c.passes.invariant.joined;
}
