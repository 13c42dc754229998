use Rattle.std.proofs.Common.{◌≡◌, List, map, take}
use Rattle.dav_store.specs.View.{Stays}
use Rattle.dav_selection.specs.Answered.{Link, linked, missing}
use Rattle.dav_selection.specs.Reports.{Followed}
use Rattle.dav_selection.specs.Taken.{taken}
use Rattle.dav_selection.proofs.following.follow.Given as goal

abbrev pub invariant-loop-href : goal.invariant-loop-href
invariant-loop-href g l = record {
  links : (links : List Link) × Followed g.S.GuardedFileSystem.view l.credentials l.prefix l.initial.fs links l.fs
      × (map (λ (k : Link). k.href) links ≡ take l.href-index l.href-items) × (l.records.items ≡ linked (taken l.wanted) links) × (l.missing.items ≡ missing (taken l.wanted) links);
  stays : Stays g.S.GuardedFileSystem.view l.initial.fs l.fs;
}
