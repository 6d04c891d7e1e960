use Rattle.desk_book.specs.Fronts.{front_found}
use Rattle.desk_book.proofs.ReadAgain.{fault_read, replayed}
use Rattle.desk_book.proofs.replaying.replay.Goals as goal

pub returns-in-Ok-take_entries : goal.returns-in-Ok-take_entries
returns-in-Ok-take_entries g c =
    replayed c.args.judge c.args.bytes.now (front_found c.in-Ok.front) c.in-Ok-open.desk c.in-Ok.ensures.found c.in-Ok-open.ensures.opened
    c.in-Ok-take_entries.end c.take_entries.new.desk c.set_durable.new.self c.in-Ok-take_entries.ensures c.set_durable.ensures

pub returns-in-Err-take_entries : goal.returns-in-Err-take_entries
returns-in-Err-take_entries g c =
    fault_read c.args.judge c.args.bytes.now (front_found c.in-Ok.front) c.in-Ok-open.desk c.in-Ok.ensures.found c.in-Ok-open.ensures.opened
    c.in-Err-take_entries.fault c.take_entries.new.desk c.in-Err-take_entries.ensures
