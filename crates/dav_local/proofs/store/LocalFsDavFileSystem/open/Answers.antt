use Rattle.std.proofs.Common.{◌≡◌, ◌∙◌, false, true, refl, rules, arith}
use Rattle.dav_core.specs.Writing.{reading}
use Rattle.dav_local.specs.Calls.{is_shut, place_of}
use Rattle.dav_local.specs.Ways.{is_known}
use Rattle.dav_local.specs.LocalFiles.{local_file}
use Rattle.dav_local.proofs.Framing.{opens_after}
use Rattle.dav_local.proofs.Seen.{open_asked}
use Rattle.dav_local.proofs.NearSeen.{saves_open, shut_opening}
use Rattle.dav_local.proofs.store.LocalFsDavFileSystem.open.Goals as goal

pub returns-then-not-is_known-clause-done : goal.returns-then-not-is_known-clause-done
returns-then-not-is_known-clause-done g c =
    let open_ : is_shut c.args.self.now.ways c.args.path.now ≡ false = cc (c.if-is_shut.ensures, c.is_shut.ensures) in
    let known : is_known c.args.self.now.ways ≡ false = cc (c.if-not-is_known.ensures, c.is_known.ensures) in
    let how : c.args.options ≡ reading = first_of (search rules, grind arith, cc) in
    (open_asked _ _ _ c.names.result.now c.args.options _ (λ w told. g.met.D.Disk.world c.args.self.now.disk w told) open_ how known c.names.ensures.value c.open_alike.ensures.done, c.open_alike.ensures.stays, saves_open (place_of g.D.Disk.state g.R.Remember.state c.args.self.now) (place_of g.D.Disk.state g.R.Remember.state c.open_alike.new.self) c.args.path.now c.names.result.now c.args.options _ known c.names.ensures.value c.open_alike.ensures.saved c.open_alike.ensures.here c.open_alike.ensures.above c.open_alike.ensures.most)

pub returns-clause-stays : goal.returns-clause-stays
returns-clause-stays g c = record {
  keeps = opens_after local_file c.args.options _ _ _ _ c.in_ok-found.ensures.done.keeps c.open_at.ensures.one;
  loan = c.open_at.ensures.loan ∙ c.in_ok-found.ensures.loan;
}

pub returns-then-is_shut-clause-done : goal.returns-then-is_shut-clause-done
returns-then-is_shut-clause-done g c =
    let shut : is_shut c.args.self.now.ways c.args.path.now ≡ true = cc (c.if-is_shut.ensures, c.is_shut.ensures) in
    let (opening, saves) = shut_opening (place_of g.D.Disk.state g.R.Remember.state c.args.self.now) c.args.path.now c.args.options shut in
    (opening, (refl, refl, refl), saves)
