use Rattle.textwrap_text.proofs.Common.{rules}
use Rattle.textwrap.proofs.Common.{IsUtf8-string_bytes, IsFilledInPlace, with_items_is, breaks_from}
use Rattle.textwrap.proofs.Common.{string_bytes, false≢true, IsUtf8, length, arith, subst, All, sym}
use Rattle.textwrap.proofs.Text.InPlace.{filled-by_feeds, feeds-within, filled-keeps}
use Rattle.textwrap.proofs.{Text.InPlaceLines.unchanged-fits, Common.◌<◌, Common.◌∙◌, Common.◌≡◌}
use Rattle.textwrap.proofs.{inplace.fill_inplace.Goals.After-put_line_feeds, Common.ap}
use Rattle.std.specs.Vec.{with_items}
use Rattle.textwrap.proofs.inplace.fill_inplace.Goals as goal

-- the bytes with their line feeds fill the text
filled : (g : _) (c : After-put_line_feeds g)
    → IsFilledInPlace c.args.width (string_bytes c.args.text.now) c.put_line_feeds.new.bytes
filled g c =
    let found = c.in_ok-breaks.ensures.breaks in
    filled-by_feeds c.args.width (string_bytes c.args.text.now) c.as_str.result.now
    c.deref_mut.result.now c.in_ok-breaks.breaks.items c.deref.result.now
    c.put_line_feeds.new.bytes found.0 found.1 found.2 c.as_str.ensures.value
    (c.deref_mut.ensures.value ∙ ap (λ v. v.items) c.into_bytes-bytes.ensures.value
    ∙ ap string_bytes c.replace.ensures.value) c.deref.ensures.value c.put_line_feeds.ensures

-- and are all bytes of the buffer
all_bytes : (g : _) (c : After-put_line_feeds g)
    → (with_items c.into_bytes-bytes.result c.put_line_feeds.new.bytes).items
    ≡ c.put_line_feeds.new.bytes
all_bytes g c =
    let keeps = filled-keeps c.args.width (string_bytes c.args.text.now) c.put_line_feeds.new.bytes
    (filled g c) in
    let whole : c.into_bytes-bytes.result.items ≡ string_bytes c.args.text.now =
    ap (λ v. v.items) c.into_bytes-bytes.ensures.value ∙ ap string_bytes c.replace.ensures.value in
    with_items_is c.into_bytes-bytes.result c.put_line_feeds.new.bytes
    (omega (arith, keeps.len, ap length whole, c.into_bytes-bytes.result.ok.0))

pub put_line_feeds-requires : goal.put_line_feeds-requires
put_line_feeds-requires g c =
    let found = c.in_ok-breaks.ensures.breaks in
    let whole : c.as_str.result.now ≡ c.deref_mut.result.now = c.as_str.ensures.value
    ∙ sym (c.deref_mut.ensures.value ∙ ap (λ v. v.items) c.into_bytes-bytes.ensures.value
    ∙ ap string_bytes c.replace.ensures.value) in
    subst (λ places. All (λ place. place < length c.deref_mut.result.now) places)
    (sym (c.deref.ensures.value ∙ found.2))
    (subst (λ bytes. All (λ place. place < length bytes) (breaks_from 0 found.0)) whole
    (feeds-within c.args.width c.as_str.result.now found.0 found.1))

pub unreachable-requires : goal.unreachable-requires
unreachable-requires g c =
    let after = (goal.at.unreachable-requires g c).After-put_line_feeds in
    let keeps = filled-keeps c.args.width (string_bytes c.args.text.now) c.put_line_feeds.new.bytes
    (filled g after) in
    false≢true (c.in-Err.ensures.succeeds (subst IsUtf8 (sym (all_bytes g after))
    (keeps.utf8 (IsUtf8-string_bytes c.args.text.now))))

pub returns-clause-filled : goal.returns-clause-filled
returns-clause-filled g c =
    let after = (goal.at.returns-clause-filled g c).After-put_line_feeds in
    rw (c.in-Ok.ensures.ok, all_bytes g after) (filled g after)

pub returns-clause-only_blanks : goal.returns-clause-only_blanks
returns-clause-only_blanks g c =
    (filled-keeps c.args.width (string_bytes c.args.text.now) (string_bytes c.in-Ok.filled)
    (returns-clause-filled g c)).only_blanks

pub returns-in_err-breaks-clause-succeeds : goal.returns-in_err-breaks-clause-succeeds
returns-in_err-breaks-clause-succeeds g c =
    search (rules, arith, unchanged-fits, c.in_err-breaks.ensures.succeeds, c.as_str.ensures.value)
