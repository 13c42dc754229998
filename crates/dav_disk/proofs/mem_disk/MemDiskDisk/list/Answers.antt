use Rattle.dav_disk.specs.Memory.{known_of}
use Rattle.std.proofs.Common.{rules}
use Rattle.dav_disk.proofs.Done.{not_scheduled}
use Rattle.dav_disk.proofs.DoneListings.{list_done, list_order, lists_no_fault}
use Rattle.dav_disk.proofs.mem_disk.MemDiskDisk.list.Goals as goal

pub returns-clause-done : goal.returns-clause-done
returns-clause-done c = list_done (known_of c.args.self.now.memory) (known_of c.list.new.self) _ _ _ _ _ _ c.args.path.now c.list.result
    (record { rises = c.next.ensures.counts; counts = c.next.ensures.asked; goes = c.next.ensures.more; keeps = λ whole. whole }) c.list.ensures

pub returns-clause-order : goal.returns-clause-order
returns-clause-order c = list_order (known_of c.args.self.now.memory) (known_of c.list.new.self) c.args.path.now c.list.result c.list.ensures

pub returns-clause-schedule : goal.returns-clause-schedule
returns-clause-schedule c =
    let fine = lists_no_fault (known_of c.args.self.now.memory) (known_of c.list.new.self) c.args.path.now c.list.result c.list.ensures in
    record {
      fails = (λ f. absurd (fine f), λ listed. absurd (not_scheduled c.next.result c.if-next.false c.next.ensures.fails listed));
      once = λ f. absurd (fine f);
      quiet = λ f. c.next.ensures.same c.if-next.false;
      stays = search rules;
    }
