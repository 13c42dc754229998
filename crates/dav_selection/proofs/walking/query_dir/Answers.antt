use Rattle.std.proofs.Common.{refl}
use Rattle.std.specs.Cmp.Lexicographic.{slice_cmp}
use Rattle.std.specs.List.Sorted.{IsPermutation, IsSortedByKey}
use Rattle.std.specs.Ordering.{nat_cmp}
use Rattle.dav_store.proofs.Staying.{reads_then}
use Rattle.dav_selection.specs.Reports.{name_of}
use Rattle.dav_selection.specs.Visits.{sought}
use Rattle.dav_selection.proofs.Links.{ok_then}
use Rattle.dav_selection.proofs.Listed.{in_order, listed_then}
use Rattle.dav_selection.proofs.Selected.{queried}
use Rattle.dav_selection.proofs.walking.query_dir.Goals as goal

pub returns-clause-table : goal.returns-clause-table
returns-clause-table g c =
    let each = ok_then c.sort.result (IsPermutation c.in-Ok.members.items c.sort.new.members.items) c.if-is_err.ensures.value c.sort.ensures.each in
    let order = ok_then c.sort.result (IsSortedByKey name_of (slice_cmp nat_cmp) c.sort.new.members.items) c.if-is_err.ensures.value c.sort.ensures.order in
    listed_then g.S.GuardedFileSystem.view g.S.GuardedFileSystem.listings c.args.credentials.now
    (sought c.args.dir.now c.args.limit c.args.wanted) c.args.fs.now c.read_members.new.fs c.walk.new.fs c.in-Ok.members.items c.sort.new.members.items c.as_slice.result.now c.walk.result
    c.in-Ok.ensures.listed each order c.as_slice.ensures.value c.walk.ensures.table

pub returns-clause-stays : goal.returns-clause-stays
returns-clause-stays g c = reads_then _ _ _ _ c.in-Ok.ensures.stays c.walk.ensures.stays

pub returns-clause-shown : goal.returns-clause-shown
returns-clause-shown g c = λ stock shows.
    let each = ok_then c.sort.result (IsPermutation c.in-Ok.members.items c.sort.new.members.items) c.if-is_err.ensures.value c.sort.ensures.each in
    let order = ok_then c.sort.result (IsSortedByKey name_of (slice_cmp nat_cmp) c.sort.new.members.items) c.if-is_err.ensures.value c.sort.ensures.order in
    queried g.S.GuardedFileSystem.view g.S.GuardedFileSystem.listings c.args.fs.now c.args.credentials.now stock
    (sought c.args.dir.now c.args.limit c.args.wanted) (stock.listed c.args.dir.now) c.in-Ok.members.items c.as_slice.result.now c.read_members.new.fs c.walk.new.fs c.walk.result refl
    c.in-Ok.ensures.listed c.in-Ok.ensures.stays.keeps (c.in-Ok.ensures.shown (stock.listed c.args.dir.now) shows.members) shows.files
    (in_order c.in-Ok.members.items c.sort.new.members.items c.as_slice.result.now each order c.as_slice.ensures.value) c.walk.ensures.table
