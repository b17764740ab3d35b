use Rattle.std.proofs.Common.{◌≡◌, ◌∙◌, ◌++◌, ap, map, List, ℕ, Bor, drop, length, length-take, arith}
use Rattle.std.proofs.{Common.{⊎_elim, inl, inr}, lemmas.List.{drop-map, length-map}}
use Rattle.text_files.proofs.DiffLines.{news-grown, olds-grown, taken-lines, taken-same}
use Rattle.text_files.proofs.DiffRuns.{kept-some, lean-grown, moves, same-or-further}
use Rattle.text_files.specs.Differences.{IsNearest, news, olds, signed_view}
use Rattle.text_files.proofs.differences.push_next.Goals as goal

-- what is the nearest behind the lines that are kept, so of the texts without them
nearest-of : (old new old_behind new_behind : List (Bor (List ℕ))) (kept removed added : ℕ)
    → old_behind ≡ drop kept old → new_behind ≡ drop kept new
    → IsNearest (map (λ line. line.now) old_behind) (map (λ line. line.now) new_behind) removed added
    → IsNearest (drop kept (map (λ line. line.now) old)) (drop kept (map (λ line. line.now) new)) removed
    added
nearest-of old new old_behind new_behind kept removed added a b is =
    rw (drop-map (λ line. line.now) kept old, drop-map (λ line. line.now) kept new)
    (rw b at (rw a at is))

pub returns-clause-some : goal.returns-clause-some
returns-clause-some g c some =
    let old = c.args.old.now in
    let new = c.args.new.now in
    let old_len = length-map old (λ line. line.now) in
    let new_len = length-map new (λ line. line.now) in
    let is = nearest-of old new _ _ c.common_len-kept_len.result _ _ c.split_at.ensures.back
    c.split_at-2.ensures.back c.in_ok-removed_len.ensures.nearest in
    moves (map (λ line. line.now) old) (map (λ line. line.now) new) c.common_len-kept_len.result
    c.in_ok-removed_len.removed_len c.in_ok-removed_len.added_len
    (omega (arith, old_len, c.common_len-kept_len.ensures.old))
    (omega (arith, new_len, c.common_len-kept_len.ensures.new))
    c.common_len-kept_len.ensures.longest is.same (omega (arith, old_len, new_len, some))

pub returns-clause-olds : goal.returns-clause-olds
returns-clause-olds g c =
    let before = olds (map signed_view c.args.signed.now.items) in
    let kept = c.common_len-kept_len.result in
    let removed = c.in_ok-removed_len.removed_len in
    let old = c.args.old.now in
    let all = olds-grown _ _ _ _ _ _ _ c.in_ok-push_signed.ensures c.in_ok-push_signed-2.ensures
    c.in_ok-push_signed-3.ensures in
    all ∙ ap (λ ls. before ++ ls)
    (rw (c.split_at.ensures.front, c.split_at.ensures.back) (taken-lines old kept removed))

pub returns-clause-news : goal.returns-clause-news
returns-clause-news g c =
    let before = news (map signed_view c.args.signed.now.items) in
    let kept = c.common_len-kept_len.result in
    let added = c.in_ok-removed_len.added_len in
    let old = c.args.old.now in
    let new = c.args.new.now in
    let all = news-grown _ _ _ _ _ _ _ c.in_ok-push_signed.ensures c.in_ok-push_signed-2.ensures
    c.in_ok-push_signed-3.ensures in
    all ∙ ap (λ ls. before ++ ls)
    (rw (c.split_at.ensures.front, c.split_at-2.ensures.back)
    (taken-same old new kept added c.common_len-kept_len.ensures.same))

pub returns-clause-lean : goal.returns-clause-lean
returns-clause-lean g c lean begins =
    let old = c.args.old.now in
    let new = c.args.new.now in
    let kept = c.common_len-kept_len.result in
    let some = ⊎_elim
    (λ none. inl (length-map c.args.signed.now.items signed_view ∙ ap length none))
    (λ same. inr (let more = kept-some (map (λ line. line.now) old) (map (λ line. line.now) new) kept same
    c.common_len-kept_len.ensures.longest in
    let len = length-map c.split_at.result.0.now (λ line. line.now) in
    let taken = length-take kept old in
    let front = ap length c.split_at.ensures.front in
    omega (arith, more, len, taken, front, c.common_len-kept_len.ensures.old)))
    begins in
    lean-grown _ _ _ _ _ _ _ _ _ c.in_ok-push_signed.ensures c.in_ok-push_signed-2.ensures
    c.in_ok-push_signed-3.ensures lean some c.in_ok-removed_len.ensures.nearest

pub returns-clause-next : goal.returns-clause-next
returns-clause-next g c =
    let old = c.args.old.now in
    let new = c.args.new.now in
    let old_len = length-map old (λ line. line.now) in
    let new_len = length-map new (λ line. line.now) in
    let is = nearest-of old new _ _ c.common_len-kept_len.result _ _ c.split_at.ensures.back
    c.split_at-2.ensures.back c.in_ok-removed_len.ensures.nearest in
    same-or-further (map (λ line. line.now) old) (map (λ line. line.now) new) c.common_len-kept_len.result
    c.common_len-kept_len.result _ _ (omega (arith, old_len, c.common_len-kept_len.ensures.old))
    (omega (arith, new_len, c.common_len-kept_len.ensures.new)) is.same
