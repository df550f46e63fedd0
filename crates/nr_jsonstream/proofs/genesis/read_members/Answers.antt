-- The goals of `genesis::read_members` that no tactic closes.
use Rattle.std.proofs.Common.{◌≡◌, ◌-◌, ◌<◌, length, Some, refl, arith}
use Rattle.json.specs.Json.{read_key, value}
use Rattle.json.proofs.Grammar.{read_key-shorter}
use Rattle.serde_json.specs.Data.{no_members, put}
use Rattle.nr_jsonstream.proofs.Reading.{members_begin, one_more_member, members_over}
use Rattle.nr_jsonstream.proofs.genesis.read_members.Goals as goal

pub members-init : goal.members-init
members-init c = (length c.args.reader.now, no_members, omega arith, members_begin (value 126) c.args.reader.now, (refl, refl))

pub members-preserved : goal.members-preserved
members-preserved c =
    let l = c.members in
    let n = l.invariant.0 in
    let old = l.invariant.1 in
    let k = c.in-Some.name.now in
    let s = c.next_key.new.self in
    let named : read_key l.reader ≡ Some (Some k, s) = grind arith in
    let more = c.in_ok-more.ensures in
    let j = more.ok.0 in
    let d = more.ok.1 in
    let r = c.with_member.new.reader in
    let less = read_key-shorter l.reader (Some k) s named in
    let lesser : length r < length s = more.shorter in (
      n - 1,
      put k d old,
      omega (arith, l.invariant.2),
      one_more_member (value 126) c.args.reader.now l.reader s r old n k j d (omega (arith, l.invariant.2)) named more.ok.2 more.ok.3 l.invariant.3,
      more.ok.4 old l.invariant.4,
    )

pub returns : goal.returns
returns c =
    let l = c.members in
    let old = l.invariant.1 in
    let all = members_over (value 126) c.args.reader.now l.reader c.next_key.new.self old l.invariant.0 l.invariant.2 (grind arith) l.invariant.3 in
    (all.0, old, all.1, all.2, l.invariant.4)
