use Rattle.std.proofs.Common.{◌≤◌, ℕ, arith}
use Rattle.dav_disk.specs.Memory.{HasRoom}
use Rattle.dav_disk.specs.Sure.{sure_state, sure_world}
use Rattle.dav_fault_laws.proofs.WholeRuns.{run_whole_at_nought, some_whole_at_nought, step_whole_at_nought}
use Rattle.dav_fault_laws.proofs.sure_runs_are_whole.Goals as goal

pub returns : goal.returns
returns c =
    let nought = λ (n : ℕ) (room : HasRoom (sure_world c.args.disk.now)) (le : n ≤ (sure_state c.args.disk.now).faults).
    let none = c.sure_disks_fail_for_want_of_room.ensures room in let is : n ≤ 0 = omega (arith, none, le) in is
    in record {
      step = λ a b step answer room le stepped. step_whole_at_nought a b step answer stepped (nought b.at.faults room le);
      run = λ a b steps old added result room le on. run_whole_at_nought a b steps old added result on (nought b.at.faults room le);
      each = λ a b steps old new result on some later are room le. some_whole_at_nought a b steps old new result on some later are (nought _ room le);
    }
