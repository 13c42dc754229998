use Rattle.std.proofs.Common.{◌≡◌, ◌≤◌, ◌∷◌, ◌+◌, drop, subst, arith}
use Rattle.dav_walks.specs.Walking.{member_at, members_at}
use Rattle.dav_upload.specs.Uploading.{hidden_files}
use Rattle.dav_upload.proofs.Closing.{stays_then}
use Rattle.dav_upload.proofs.MembersTaken.{Far, at_most_one, ended_all, ended_there, next_member, taken_one}
use Rattle.dav_upload.proofs.sweeping.take_members.Goals as goal

pub members-preserved : goal.members-preserved
members-preserved g c =
    let view = g.S.GuardedFileSystem.view in
    let lists = g.S.GuardedFileSystem.listings in
    let all = hidden_files c.args.dir.now (members_at c.args.dir.now c.args.members.now) in
    let x = c.member-item.result in
    let rest = drop (c.members.member-index + 1) c.args.members.now in
    let here : drop c.members.member-index c.args.members.now ≡ x ∷ rest = next_member c.args.members.now c.members.member-index x c.members-test.true c.member-item.is in
    let few : c.in-Ok.taken ≤ 1 = at_most_one view lists c.args.credentials.now c.args.dir.now all c.args.fs.now (member_at c.args.dir.now x) c.in-Ok.taken c.members.fs c.take_member.new.fs c.in-Ok.ensures.table in
    record {
      far = taken_one view lists c.args.credentials.now c.args.dir.now all c.args.fs.now x rest c.members.count c.in-Ok.taken c.members.fs c.take_member.new.fs c.in-Ok.ensures.table
          (subst (λ xs. Far view lists c.args.credentials.now c.args.dir.now all c.args.fs.now xs c.members.count c.members.fs) here c.members.invariant.far);
      few = omega (arith, few, c.members.invariant.few);
      stays = stays_then view _ _ _ c.members.invariant.stays c.in-Ok.ensures.stays;
    }

pub returns-in-Err-clause-table : goal.returns-in-Err-clause-table
returns-in-Err-clause-table g c =
    let view = g.S.GuardedFileSystem.view in
    let lists = g.S.GuardedFileSystem.listings in
    let all = hidden_files c.args.dir.now (members_at c.args.dir.now c.args.members.now) in
    let x = c.member-item.result in
    let rest = drop (c.members.member-index + 1) c.args.members.now in
    let here : drop c.members.member-index c.args.members.now ≡ x ∷ rest = next_member c.args.members.now c.members.member-index x c.members-test.true c.member-item.is in
    ended_there view lists c.args.credentials.now c.args.dir.now all c.args.fs.now x rest c.members.count c.in-Err.error c.members.fs c.take_member.new.fs c.in-Err.ensures.table
    (subst (λ xs. Far view lists c.args.credentials.now c.args.dir.now all c.args.fs.now xs c.members.count c.members.fs) here c.members.invariant.far)

pub returns-in-Err-clause-stays : goal.returns-in-Err-clause-stays
returns-in-Err-clause-stays g c = stays_then g.S.GuardedFileSystem.view _ _ _ c.members.invariant.stays c.in-Err.ensures.stays

pub returns-clause-table : goal.returns-clause-table
returns-clause-table g c =
    ended_all g.S.GuardedFileSystem.view g.S.GuardedFileSystem.listings c.args.credentials.now c.args.dir.now (hidden_files c.args.dir.now (members_at c.args.dir.now c.args.members.now)) c.args.fs.now
    c.args.members.now c.members.member-index c.members.count c.members.fs c.members-test.false c.members.invariant.far
