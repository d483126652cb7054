use Rattle.std.proofs.Common.{arith}
use Rattle.queue.proofs.Rounds.{write_one, write_two}
use Rattle.queue.proofs.ring.write_round.Goals as goal

pub returns-then-n-to_end : goal.returns-then-n-to_end
returns-then-n-to_end c =
    write_one c.args.memory.now c.args.octets.now c.copy_from_slice.new.self c.args.at _ (omega arith) (omega arith)
    c.copy_from_slice.ensures.after

pub returns-else-n-to_end : goal.returns-else-n-to_end
returns-else-n-to_end c =
    write_two c.args.memory.now c.args.octets.now c.copy_from_slice-else-n-to_end.new.self c.copy_from_slice-else-n-to_end-2.new.self
    c.args.at _ _ _ (omega arith) (omega arith) (omega arith) (omega arith)
    c.copy_from_slice-else-n-to_end.ensures.after c.copy_from_slice-else-n-to_end-2.ensures.after (omega arith) (omega arith)
