use Rattle.std.proofs.Common.{◌≡◌}
use Rattle.dav_put.specs.Storing.{Tried, token_after}
use Rattle.dav_put.proofs.storing.begin_some.Given as goal

abbrev pub invariant-tokens : goal.invariant-tokens
invariant-tokens g l = record {
  tried : Tried g.S.GuardedFileSystem.view g.S.File.DavFile.view.writes l.credentials
      (record { target = l.path; fields = l.fields; token = l.fn.first }) l.initial.fs l._tries l.fs;
  token : l.token ≡ token_after l.fn.first l._tries;
}
