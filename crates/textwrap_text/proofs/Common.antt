-- The names that most proofs cite: those of the standard library, and those of the definitions of
-- this crate. Declares nothing.
pub use Rattle.textwrap_text.specs.{Characters.shown_text, LentText.IsLent, Lists.last}
pub use Rattle.textwrap_text.specs.{CharactersLeft.characters_left, LineEnding.line_feed}
pub use Rattle.textwrap_text.specs.Blanks.{blank, BlanksBetween, final_blanks, without_final_blanks}
pub use Rattle.textwrap_text.specs.Blanks.{is_blank, trimmed_len}
pub use Rattle.textwrap_text.specs.Chunks.{AreChunks, AreCutApart, chunks, is_cut, IsUncut}
pub use Rattle.textwrap_text.specs.Escapes.{next_of, shows, taken_in, visible_in}
pub use Rattle.textwrap_text.specs.LineEnding.{ending_bytes, join_with, paragraphs_of, parts_past}
pub use Rattle.textwrap_text.specs.Units.{characters, IsPrintable, IsPrintableByte, units_width}
pub use Rattle.textwrap_text.specs.Units.{AreUnits, escape_len, text_width, unit_width, units_past}
pub use Rattle.textwrap_text.specs.Units.{IsNarrow, Sequence, stripped, TextUnit, units, visible_of}
pub use Rattle.textwrap_text.specs.Units.{columns, escape, taken_at, unit_at, Visible}
pub use Rattle.textwrap_text.specs.declared.escapes.State.{State, TheVariants.Text}
pub use Rattle.std.{proofs.lemmas.Grind.common_steps, specs.Str.Iter.char_indices_rest}
pub use Rattle.std.proofs.{Common.[], Common.ap, Common.Ok, Common.◌⊎◌, Transfers.starts_with_trans}
pub use Rattle.std.proofs.{Common.w8, lemmas.List.Sums.sum_by-append, lemmas.List.Sums.sum_by-cons}
pub use Rattle.std.proofs.Common.{if◌then◌else◌, IsCharBoundary, length-append, take-append-drop, ℕ}
pub use Rattle.std.proofs.Common.{append_assoc, length-drop, length-take, slice_index, string_bytes}
pub use Rattle.std.proofs.Common.{add-zero, append-nil, IsErrAnd, MatchBool, slice_range, zero-add}
pub use Rattle.std.proofs.Common.{add-one, arith, IsSome, IsUtf8, Option, reverse, SomeIff, vec_len}
pub use Rattle.std.proofs.Common.{eq-eqb, filter, get_or, length, nat_eq, nat_lt, Result, sum_by}
pub use Rattle.std.proofs.Common.{Bool, codes, false, Iter, List, None, rules, Some, subst, ⊎_elim}
pub use Rattle.std.proofs.Common.{All, cond, drop, refl, take, true, zero, ◌&&◌, ◌++◌, ◌==◌, ◌||◌}
pub use Rattle.std.proofs.Common.{ap₂, Bor, eqb, Err, inl, inr, ltb, map, max, min, not, suc, Vec}
pub use Rattle.std.proofs.Common.{sym, ◌*◌, ◌+◌, ◌-◌, ◌/◌, ◌<◌, ◌^◌, ◌↔◌, ◌∙◌, ◌∷◌, ◌≡◌, ◌≢◌, ◌≤◌}
pub use Rattle.std.proofs.Math.Seq.{drop-append-add, split_at, take-add, take-append-add}
pub use Rattle.std.proofs.Transfers.{starts_with_length, starts_with_of_append, starts_with_of_eq}
pub use Rattle.std.proofs.lemmas.{Iterator.Consumers.YieldsList-end, Result.on_ok_weaker}
pub use Rattle.std.proofs.lemmas.Bool.{cases_Bool, false_from_ne_true, false≢true, true≢false}
pub use Rattle.std.proofs.lemmas.Bool.{and_parts, and_right, cond_both, eqb-false, ltb-false}
pub use Rattle.std.proofs.lemmas.Bool.{and_from, cases_eq, cases_lt, eqb-true, ltb-true, not-true}
pub use Rattle.std.proofs.lemmas.Bool.{Decides.nat_tests, le-leb, le-ltb, lt-ltb, ne_eqb, or_cases}
pub use Rattle.std.proofs.lemmas.Iterator.{Consumers.YieldsList-turn, YieldsList-from_chars}
pub use Rattle.std.proofs.lemmas.List.{drop_at, get_or_append_left, get_or_default, nil_from_length}
pub use Rattle.std.proofs.lemmas.List.{at_drop_all, length-take-le, reverse-append, take-append-le}
pub use Rattle.std.proofs.lemmas.List.{drop_all, get_or-drop, get_or-take, get_or_past, get_or_push}
pub use Rattle.std.proofs.lemmas.List.{drop-drop, get_or-map, length-map, length_push, map-append}
pub use Rattle.std.proofs.lemmas.List.{drop_more, map_push, take-map, take-take, take_at, take_more}
pub use Rattle.std.proofs.lemmas.List.{Concat.flat_map-append, Elements.All-cons, map-id, take_all}
pub use Rattle.std.proofs.lemmas.List.{Elements.All-nil, FromFn.map-range_with_len_more}
pub use Rattle.std.proofs.lemmas.List.Elements.{All-append, All-from_get_or, All-map, filter-append}
pub use Rattle.std.proofs.lemmas.List.Elements.{All-drop, All-head, All-tail, All-take, All-weaker}
pub use Rattle.std.proofs.lemmas.List.Folds.{drop_split, length-prefix_len}
pub use Rattle.std.proofs.lemmas.Str.{IsCharBoundary-after_ascii, IsCharBoundary-from_drop}
pub use Rattle.std.proofs.lemmas.Str.{IsCharBoundary-from_take, IsCharBoundary-start, IsUtf8-append}
pub use Rattle.std.proofs.lemmas.Str.{chars_from_encodes, IsUtf8-from_ascii, IsUtf8-past_char}
pub use Rattle.std.proofs.lemmas.Str.{chars-append, chars_past_char, encodes-append, IsUtf8-between}
pub use Rattle.std.proofs.lemmas.Str.{chars-IsAscii, encode_ascii, encodes-chars, length-encode}
pub use Rattle.std.proofs.lemmas.Str.{chars-nil, inside_one, IsUtf8-drop, IsUtf8-nil, IsUtf8-take}
pub use Rattle.std.specs.{Char.is_ascii_alphanumeric, Io.StartsWith, Option.option_map}
pub use Rattle.std.specs.List.{common_prefix_len, join_with_byte, position_or_len, range_with_len}
pub use Rattle.std.specs.List.{after_last, onto_first, prefix_len, repeat, slice_split, starts_with}
pub use Rattle.std.specs.List.{Contains, ends_with, flat_map, list_all, suffix_len, take_while, zip}
pub use Rattle.std.specs.List.{fold, list_any, Sorted.IsNonDecreasing, Sorted.IsStrictlyIncreasing}
pub use Rattle.std.specs.Prelude.{IfOk, is_some, OnOk, replicate, unwrap_or, ⊤}
pub use Rattle.std.specs.Str.{all_scalars, encode_utf8_all, IsAscii, Iter.char_indices_offset}
pub use Rattle.std.specs.Str.Lines.{lines, lines_of_parts, strip_carriage_return}
pub use Rattle.unicode_width.specs.Kind.{kind, kind_number}
pub use denote.Shadow.{shadow}
pub use denote.Text.{Utf8}
pub use lib.Utf8.{encode, encodes, scalar}
