-- `shell::Queue::popped` meets its contract. Assumes nothing.
use Rattle.std.proofs.Common.{◌≡◌, length, rules}
use Rattle.shell.specs.Laws.Queue.{popped_is}
use Rattle.shell.proofs.Queue.popped.Goals as goal

pub returns : goal.returns
returns c =
    let long : length c.args.self.tokens ≡ 8 = search rules in
    rw c.copy_within.ensures.after (popped_is c.args.self long)
