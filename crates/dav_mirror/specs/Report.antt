-- What a mirror came to, beside its lines, and how it is told.
use Rattle.std.specs.Prelude.{◌++◌, ℕ, List, codes, decimal, length, map, min, sum, Option, Some, Result, Ok, Err}
use Rattle.dav_io.specs.Counts.{greatest}
use Rattle.dav_core.specs.DavPath.{WebPath, link_of, shown}
use Rattle.dav_fetch.specs.declared.copied.Copied.{Copied}
use Rattle.dav_fetch.specs.declared.copied.Kept.{Kept}
use Rattle.dav_fetch.specs.declared.error.MirrorError.{MirrorError}
use Rattle.dav_fetch.specs.declared.error.MirrorError.TheVariants.{Peer as PeerFailed, Refused, NotAPage, BadReply, Short, TooLong, Budget, NoMemory}
use Rattle.dav_mirror.specs.declared.report.Report.{Report}
use Rattle.dav_mirror.specs.declared.report.Report.TheVariants.{Fetched, Broken, Ended}

-- how many bytes files have together, up to the greatest u64
abbrev pub total_len : List Kept → ℕ
total_len files = min (sum (map (λ (f : Kept). f.len) files)) greatest

-- how many files and bytes a fetched copy has
abbrev pub copy_report : Copied → Report
copy_report copy = Fetched (length copy.files) (total_len copy.files)

-- Why a fetch ended, and at which path: where the peer failed, at that of the last reply, if there was one.
abbrev pub end_report : MirrorError → Option WebPath → Report
end_report PeerFailed (Some path) = Broken path
end_report e last = Ended e

-- ---- in words

abbrev pub error_line : MirrorError → List ℕ
error_line PeerFailed = codes "a call of the disk failed in a body"
error_line (Refused p status) = link_of (shown p) ++ (codes " is answered " ++ decimal status)
error_line (NotAPage p) = link_of (shown p) ++ codes " is answered by no index page"
error_line (BadReply p) = link_of (shown p) ++ codes " is answered by what can't be of it"
error_line (Short p got announced) = link_of (shown p) ++ (codes " ends behind " ++ (decimal got ++ (codes " of " ++ (decimal announced ++ codes " bytes"))))
error_line (TooLong p) = link_of (shown p) ++ codes " is too long, or its page"
error_line (Budget made) = codes "more than " ++ (decimal made ++ codes " requests are due")
error_line NoMemory = codes "memory is refused"

abbrev pub report_line : Report → List ℕ
report_line (Fetched files bytes) = decimal files ++ (codes " files, " ++ (decimal bytes ++ codes " bytes"))
report_line (Broken p) = codes "a call of the disk failed in the body of " ++ link_of (shown p)
report_line (Ended e) = error_line e
