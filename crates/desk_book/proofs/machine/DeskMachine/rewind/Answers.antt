use Rattle.desk_book.proofs.Rewinding.{rewound}
use Rattle.desk_book.proofs.machine.DeskMachine.rewind.Goals as goal

pub returns : goal.returns
returns g c m follows is = rewound _ m c.args.self.now c.args.mark.now c.in_ok-self.field-0 follows is c.in_ok-self.ensures
