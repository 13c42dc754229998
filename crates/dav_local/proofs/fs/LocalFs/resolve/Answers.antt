use Rattle.std.proofs.Common.{Err, Ok, refl}
use Rattle.dav_local.specs.Places.{place_of}
use Rattle.dav_local.proofs.Resolved.{copy_stands, found_stands, owned_exactly, owned_saved}
use Rattle.dav_local.proofs.fs.LocalFs.resolve.Goals as goal

pub returns-in-Ok-Some-clause-saved : goal.returns-in-Ok-Some-clause-saved
returns-in-Ok-Some-clause-saved g c =
    owned_saved (place_of g.D.Disk.state g.R.Remember.state c.args.self.now) (place_of g.D.Disk.state g.R.Remember.state c.found.new.self) _ _ (Ok c.in-Ok-Some.field-0) (Ok c.in-Ok-Some.at) c.names-names.ensures.value
    c.in-Ok-Some.ensures.saved (found_stands _ _ c.in-Ok-Some.field-0 c.in-Ok-Some.field-0-is)

pub returns-in-Ok-Some-clause-exactly : goal.returns-in-Ok-Some-clause-exactly
returns-in-Ok-Some-clause-exactly g c =
    owned_exactly _ _ _ _ (Ok c.in-Ok-Some.field-0) (Ok c.in-Ok-Some.at) c.names-names.ensures.value c.in-Ok-Some.ensures.done (found_stands _ _ c.in-Ok-Some.field-0 c.in-Ok-Some.field-0-is)

pub returns-in-Ok-None-clause-saved : goal.returns-in-Ok-None-clause-saved
returns-in-Ok-None-clause-saved g c =
    owned_saved (place_of g.D.Disk.state g.R.Remember.state c.args.self.now) (place_of g.D.Disk.state g.R.Remember.state c.found.new.self) _ _ (Ok c.in-Ok-None.field-0) c.copied.result c.names-names.ensures.value
    c.in-Ok-None.ensures.saved (copy_stands _ c.in-Ok-None.field-0 c.copied.result c.in-Ok-None.field-0-is c.copied.ensures.ok c.copied.ensures.err)

pub returns-in-Ok-None-clause-exactly : goal.returns-in-Ok-None-clause-exactly
returns-in-Ok-None-clause-exactly g c =
    owned_exactly _ _ _ _ (Ok c.in-Ok-None.field-0) c.copied.result c.names-names.ensures.value c.in-Ok-None.ensures.done (copy_stands _ c.in-Ok-None.field-0 c.copied.result c.in-Ok-None.field-0-is c.copied.ensures.ok c.copied.ensures.err)

pub returns-in-Err-clause-saved : goal.returns-in-Err-clause-saved
returns-in-Err-clause-saved g c =
    owned_saved (place_of g.D.Disk.state g.R.Remember.state c.args.self.now) (place_of g.D.Disk.state g.R.Remember.state c.found.new.self) _ _ (Err c.in-Err.error) (Err c.in-Err.error) c.names-names.ensures.value c.in-Err.ensures.saved refl
