use Rattle.std.proofs.Common.{◌≡◌, take}
use Rattle.dav_mirror.specs.Report.{total_len}
use Rattle.dav_mirror.proofs.report.total_of.Given as goal

abbrev pub invariant-loop-file : goal.invariant-loop-file
invariant-loop-file l = l.total ≡ total_len (take l.file-index l.files)
