use Rattle.dav_disk.specs.Memory.{known_of}
use Rattle.std.proofs.Common.{true, false, rules}
use Rattle.dav_disk.proofs.Done.{meta_done, meta_no_fault, not_scheduled}
use Rattle.dav_disk.proofs.mem_disk.MemDisk.look.Goals as goal

pub returns-clause-done : goal.returns-clause-done
returns-clause-done c = meta_done true (known_of c.args.self.now.memory) _ _ _ _ _ _ c.args.path.now c.meta.result
    (record { rises = c.next.ensures.counts; counts = c.next.ensures.asked; goes = c.next.ensures.more; keeps = λ whole. whole }) c.meta.ensures.found

pub returns-clause-link : goal.returns-clause-link
returns-clause-link c = meta_done false (known_of c.args.self.now.memory) _ _ _ _ _ _ c.args.path.now c.meta.result
    (record { rises = c.next.ensures.counts; counts = c.next.ensures.asked; goes = c.next.ensures.more; keeps = λ whole. whole }) c.meta.ensures.found

pub returns-clause-schedule : goal.returns-clause-schedule
returns-clause-schedule c =
    let fine = meta_no_fault (known_of c.args.self.now.memory).world c.args.path.now c.meta.result c.meta.ensures.found in
    record {
      fails = (λ f. absurd (fine f), λ listed. absurd (not_scheduled c.next.result c.if-next.false c.next.ensures.fails listed));
      once = λ f. absurd (fine f);
      quiet = λ f. c.next.ensures.same c.if-next.false;
      stays = search rules;
    }
