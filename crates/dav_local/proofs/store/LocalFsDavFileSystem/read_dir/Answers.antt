use Rattle.std.proofs.Common.{◌∙◌, Some, Ok, Err, refl}
use Rattle.dav_local.proofs.Framing.{lists_after}
use Rattle.dav_local.specs.Places.{place_of}
use Rattle.dav_local.proofs.NearSeen.{begun_counts, saves_dir, unfound_dir}
use Rattle.dav_local.proofs.store.LocalFsDavFileSystem.read_dir.Goals as goal

pub returns-in-Ok-clause-stays : goal.returns-in-Ok-clause-stays
returns-in-Ok-clause-stays g c = record {
  keeps = lists_after (λ d. Some d.reading.lister.0) _ _ _ _ c.in-Ok.ensures.done.keeps c.begin_dir.ensures.one;
  loan = c.begin_dir.ensures.loan ∙ c.in-Ok.ensures.loan;
}

pub returns-in-Ok-clause-done : goal.returns-in-Ok-clause-done
returns-in-Ok-clause-done g c = (
  (Ok c.in-Ok.at, (place_of g.D.Disk.state g.R.Remember.state c.resolve.new.self), c.in-Ok.ensures.done, (g.D.Disk.state c.begin_dir.new.disk, c.begin_dir.ensures.done, refl)),
  c.in-Ok.ensures.stays,
  saves_dir (place_of g.D.Disk.state g.R.Remember.state c.args.self.now) (place_of g.D.Disk.state g.R.Remember.state c.resolve.new.self) (place_of g.D.Disk.state g.R.Remember.state (record c.resolve.new.self { disk = c.begin_dir.new.disk })) c.args.path.now c.in-Ok.at _ c.args.meta _ c.in-Ok.ensures.near c.in-Ok.ensures.done.keeps.counts (begun_counts _ _ _ _ _ _ c.begin_dir.ensures.done) c.begin_dir.ensures.done c.in-Ok.ensures.most,
)

pub returns-in-Err-clause-done : goal.returns-in-Err-clause-done
returns-in-Err-clause-done g c = (
  (Err c.in-Err.error, (place_of g.D.Disk.state g.R.Remember.state c.resolve.new.self), c.in-Err.ensures.done, (refl, refl)),
  c.in-Err.ensures.stays,
  unfound_dir (place_of g.D.Disk.state g.R.Remember.state c.args.self.now) (place_of g.D.Disk.state g.R.Remember.state c.resolve.new.self) c.args.path.now c.in-Err.error c.in-Err.ensures.near c.in-Err.ensures.most,
)
