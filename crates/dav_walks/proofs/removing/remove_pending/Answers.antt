use Rattle.std.proofs.Common.{Err, [], refl, ap, arith}
use Rattle.dav_store.proofs.Staying.{stays_same, stays_then}
use Rattle.dav_walks.specs.Walking.{works_at}
use Rattle.dav_walks.specs.Weights.{weight}
use Rattle.dav_walks.proofs.steps.RemovesByTable.{none_pending, pending_goes, pending_stops}
use Rattle.dav_walks.proofs.removing.remove_pending.Goals as goal

pub works-init : goal.works-init
works-init g c = record { removes = λ last r t h. h; slash = c.requires.slash; stays = stays_same _ _ }

pub works-preserved : goal.works-preserved
works-preserved g c =
    let before = c.works.invariant in
    record {
      removes = λ last r t h. before.removes last r t
          (pending_goes g.S.GuardedFileSystem.view g.S.GuardedFileSystem.listings c.args.credentials.now c.works.path c.remove_one.new.path
          c.works.works.items c.pop_front.new.self.items c.remove_one.new.works.items c.in-Some.work last c.works.fs c.remove_one.new.fs t r c.in-Some.ensures.items
          (c.in-Ok.ensures.removes last) h);
      slash = c.in-Ok.ensures.slash refl;
      stays = stays_then _ _ _ _ before.stays c.remove_one.ensures.stays;
    }

pub works-smaller : goal.works-smaller
works-smaller g c = omega (arith, c.in-Ok.ensures.lighter refl, ap (λ ws. weight (works_at c.works.path ws [])) c.in-Some.ensures.items)

pub returns-in-Err-clause-removes : goal.returns-in-Err-clause-removes
returns-in-Err-clause-removes g c = λ last.
    c.works.invariant.removes last (Err c.in-Err.error) c.remove_one.new.fs
    (pending_stops g.S.GuardedFileSystem.view g.S.GuardedFileSystem.listings c.args.credentials.now c.works.path c.works.works.items
    c.pop_front.new.self.items c.in-Some.work last (works_at c.remove_one.new.path c.remove_one.new.works.items last) c.works.fs c.remove_one.new.fs c.in-Err.error c.in-Some.ensures.items (c.in-Err.ensures.removes last))

pub returns-in-Err-clause-stays : goal.returns-in-Err-clause-stays
returns-in-Err-clause-stays g c = stays_then _ _ _ _ c.works.invariant.stays c.remove_one.ensures.stays

pub returns-in-None-clause-removes : goal.returns-in-None-clause-removes
returns-in-None-clause-removes g c = λ last r t h.
    c.works.invariant.removes last r t
    (none_pending g.S.GuardedFileSystem.view g.S.GuardedFileSystem.listings c.args.credentials.now c.works.path
    c.works.works.items last c.works.fs t r (omega (arith, c.in-None.ensures.cases.0, c.works.works.ok.0)) h)
