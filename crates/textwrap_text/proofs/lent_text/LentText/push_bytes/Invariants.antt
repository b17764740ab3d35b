use Rattle.textwrap_text.proofs.lent_text.LentText.push_bytes.Given as goal
use Rattle.textwrap_text.proofs.Common.{IsLent, List, take, ◌++◌, ◌≡◌, ℕ}

-- the bytes so far are appended
abbrev pub invariant-loop-byte : goal.invariant-loop-byte
invariant-loop-byte l = record {
  same : l.self.room.ghost_name ≡ l.fn.self.room.ghost_name;
  text : (text before : List ℕ) → IsLent l.fn.self text before
      → IsLent l.self (text ++ take l.byte-index l.part) before;
}
