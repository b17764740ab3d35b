-- Lemmas for a caller that divides fragments: the closed width of a line that grows by a fragment,
-- and a division whose lines, one after the other, are the fragments.
pub use Rattle.textwrap_base.proofs.Division.{Greedy.closed_width-push, Map.IsDivision-whole}
