use Rattle.std.proofs.Common.{true, refl}
use Rattle.dav_local.specs.Calls.{place_of}
use Rattle.dav_local.proofs.Gathered.{next_of}
use Rattle.dav_local.proofs.Walked.{walk_ends, walk_told}
use Rattle.dav_local.proofs.laws.walks_tell_the_members.Goals as goal

pub returns : goal.returns
returns g c = record {
  each = λ w n o l k answers told lists links walk. walk_told _ _ (record { next_so = λ s d r t e h. next_of s.moment (place_of g.D.Disk.state g.R.Remember.state s) (place_of g.D.Disk.state g.R.Remember.state t) d e r h.0; called_so = λ e. refl; says_so = λ e s r t h. h }) true
      (place_of g.D.Disk.state g.R.Remember.state c.args._fs.now) (place_of g.D.Disk.state g.R.Remember.state n) w c.args._path.now n o l k answers told
      (g.met.D.Disk.world c.args._fs.now.disk w told) lists.0 refl links walk;
  ends = λ w n o t l k j answers last told lists links walk on. walk_ends _ _ (record { next_so = λ s d r t e h. next_of s.moment (place_of g.D.Disk.state g.R.Remember.state s) (place_of g.D.Disk.state g.R.Remember.state t) d e r h.0; called_so = λ e. refl; says_so = λ e s r t h. h }) true
      (place_of g.D.Disk.state g.R.Remember.state c.args._fs.now) (place_of g.D.Disk.state g.R.Remember.state n) w c.args._path.now n o t l k j answers last told
      lists.0 refl links walk on;
}
