use Rattle.std.proofs.Common.{◌≡◌, false, true, refl, rules, arith}
use Rattle.dav_model.specs.Finding.{is_virtual}
use Rattle.dav_local.specs.Ways.{is_known, rules_of}
use Rattle.dav_core.proofs.UnchangedLemmas.{keeps_then}
use Rattle.dav_local.specs.Calls.{place_of}
use Rattle.dav_local.proofs.Seen.{look_asked}
use Rattle.dav_local.proofs.NearSeen.{looks_known, saves_look, saves_virtual}
use Rattle.dav_local.proofs.fs.LocalFs.look.Goals as goal
use Rattle.dav_local.proofs.fs.LocalFs.look.Goals.{else-follows-via-else-follows, else-follows-via-then-follows+else-not-is_known}

pub returns-then-not-is_known-clause-done : goal.returns-then-not-is_known-clause-done
returns-then-not-is_known-clause-done g c =
    let real : is_virtual (rules_of c.args.self.now.ways) c.args.path.now ≡ false = cc (c.if-is_virtual.ensures, c.is_virtual.ensures) in
    let known : is_known c.args.self.now.ways ≡ false = cc (c.if-not-is_known.ensures, c.is_known.ensures) in
    look_asked _ _ _ c.names.result.now c.has_slash-slash.result c.args.follows _ (λ w told. g.met.D.Disk.world c.args.self.now.disk w told) c.if-follows.true real known c.names.ensures.value
    c.has_slash-slash.ensures c.look_alike.ensures.done

pub returns-clause-keeps : goal.returns-clause-keeps
returns-clause-keeps g c = keeps_then _ _ _ c.in_ok-found.ensures.done.keeps c.look_at.ensures.keeps

pub returns-then-not-is_known-clause-saved : goal.returns-then-not-is_known-clause-saved
returns-then-not-is_known-clause-saved g c = λ follows.
    let known : is_known c.args.self.now.ways ≡ false = cc (c.if-not-is_known.ensures, c.is_known.ensures) in
    saves_look (place_of g.D.Disk.state g.R.Remember.state c.args.self.now) (place_of g.D.Disk.state g.R.Remember.state c.look_alike.new.self) c.args.path.now c.names.result.now c.has_slash-slash.result _
    known c.names.ensures.value c.has_slash-slash.ensures c.look_alike.ensures.saved c.look_alike.ensures.here c.look_alike.ensures.above c.look_alike.ensures.kept c.look_alike.ensures.most

pub returns-then-is_virtual-clause-saved : goal.returns-then-is_virtual-clause-saved
returns-then-is_virtual-clause-saved g c = λ follows.
    let virtual : is_virtual (rules_of c.args.self.now.ways) c.args.path.now ≡ true = cc (c.if-is_virtual.ensures, c.is_virtual.ensures) in
    saves_virtual _ _ _ _ virtual refl

pub returns-clause-saved : goal.returns-clause-saved
returns-clause-saved g c = λ follows.
    let known : is_known c.args.self.now.ways ≡ true = elim c.else-follows.branch [
      | else-follows-via-then-follows+else-not-is_known w ↦ first_of (search rules, grind arith, cc)
      | else-follows-via-else-follows w ↦ first_of (search rules, grind arith, cc)
    ] in
    looks_known (place_of g.D.Disk.state g.R.Remember.state c.args.self.now) (place_of g.D.Disk.state g.R.Remember.state c.found.new.self) (place_of g.D.Disk.state g.R.Remember.state c.look_at.new.self) c.args.path.now _ c.at_or.result.now _
    c.args.follows c.has_slash-slash.result _ known c.in_ok-found.ensures.done c.look_at.ensures.done
