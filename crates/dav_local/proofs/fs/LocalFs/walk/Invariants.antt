use Rattle.std.proofs.Common.{◌≡◌, length}
use Rattle.dav_local.specs.Places.{Stays, place_of}
use Rattle.dav_local.proofs.Coming.{Going}
use Rattle.dav_local.proofs.FromRoot.{Spending}
use Rattle.dav_local.proofs.fs.LocalFs.walk.Given as goal

-- where the walk came to, how many calls that took, what stays, and the loan
abbrev pub invariant-loop-name : goal.invariant-loop-name
invariant-loop-name g l = record {
  going : Going (place_of g.D.Disk.state g.R.Remember.state l.initial.self) l.path (place_of g.D.Disk.state g.R.Remember.state l.self) l.at l.rest;
  spending : Spending (place_of g.D.Disk.state g.R.Remember.state l.initial.self) l.path (place_of g.D.Disk.state g.R.Remember.state l.self) l.at l.rest;
  stays : Stays l.initial.self l.self;
  loan : g.D.Disk.loan l.self.disk ≡ g.D.Disk.loan l.initial.self.disk;
}

abbrev pub decreases-loop-name : goal.decreases-loop-name
decreases-loop-name g l = length l.rest
