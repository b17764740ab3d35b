use Rattle.std.proofs.Common.{◌≡◌, ◌++◌, map, take}
use Rattle.text_files.specs.Differences.{signed_text, signed_view}
use Rattle.text_files.proofs.differences.push_signed.Given as goal

-- the lines so far were added
abbrev pub invariant-loop-line : goal.invariant-loop-line
invariant-loop-line g l =
    map signed_view l.signed.items
    ≡ map signed_view l.initial.signed.items
    ++ map (signed_text l.sign) (map (λ line. line.now) (take l.line-index l.lines))
