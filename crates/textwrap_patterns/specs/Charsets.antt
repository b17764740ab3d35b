-- Charsets of a byte a character: their names, and the texts that bytes stand for.
use Rattle.std.specs.Prelude.{ℕ, ◌+◌, ◌-◌, Bool, ◌==◌, ◌||◌, List, Option, None, Some, bytes_eq}
use Rattle.std.specs.Prelude.{codes, filter, if◌then◌else◌, length, map, nat_eq, nat_lt}
use Rattle.std.specs.Prelude.{slice_index, take}
use Rattle.std.specs.Char.{is_ascii_alphanumeric, to_ascii_lowercase}
use Rattle.std.specs.List.{position_or_len, starts_with}
use Rattle.std.specs.Str.{encode_utf8_all}
use Rattle.textwrap_patterns.specs.declared.charsets.TheConstants.{LATIN_1, LATIN_2, LATIN_4}
use Rattle.textwrap_patterns.specs.declared.charsets.TheConstants.{CYRILLIC, GREEK, LATIN_7, LATIN_9}
use Rattle.textwrap_patterns.specs.declared.charsets.TheConstants.{KOI8_R, KOI8_U, WINDOWS_1251}

-- ---- names

-- a name as names are compared: its letters and digits of ASCII, in lower case
abbrev pub plain_name : List ℕ → List ℕ
plain_name line = map to_ascii_lowercase (filter is_ascii_alphanumeric line)

abbrev pub starts : List ℕ → List ℕ → Bool
starts start name = starts_with nat_eq name start

-- such a name begins as that of a charset does which files name, known or not
abbrev pub names_charset : List ℕ → Bool
names_charset name =
    starts (codes "utf8") name || (starts (codes "iso8859") name || (starts (codes "koi8") name
    || (starts (codes "microsoftcp") name || (starts (codes "windows12") name
    || (starts (codes "cp125") name || (starts (codes "tis620") name
    || starts (codes "iscii") name))))))

abbrev pub latin_table : List ℕ → Option (List ℕ)
latin_table name =
    if bytes_eq name (codes "iso88591") then Some LATIN_1
    else if bytes_eq name (codes "iso88592") then Some LATIN_2
    else if bytes_eq name (codes "iso88594") then Some LATIN_4
    else if bytes_eq name (codes "iso885913") then Some LATIN_7
    else if bytes_eq name (codes "iso885915") then Some LATIN_9
    else None

abbrev pub other_table : List ℕ → Option (List ℕ)
other_table name =
    if bytes_eq name (codes "iso88595") then Some CYRILLIC
    else if bytes_eq name (codes "iso88597") then Some GREEK
    else if bytes_eq name (codes "koi8r") then Some KOI8_R
    else if bytes_eq name (codes "koi8u") then Some KOI8_U
    else if bytes_eq name (codes "microsoftcp1251")
    || (bytes_eq name (codes "windows1251") || bytes_eq name (codes "cp1251"))
    then Some WINDOWS_1251
    else None

abbrev pub first_table : Option (List ℕ) → Option (List ℕ) → Option (List ℕ)
first_table None other = other
first_table (Some table) other = Some table

-- the characters for the last bytes of the charset of this name
abbrev pub table_named : List ℕ → Option (List ℕ)
table_named name = first_table (latin_table name) (other_table name)

abbrev pub is_line_feed_byte : ℕ → Bool
is_line_feed_byte b = b == 10

-- those of the charset that the first line names
abbrev pub charset_of : List ℕ → Option (List ℕ)
charset_of bytes = table_named (plain_name (take (position_or_len is_line_feed_byte bytes) bytes))

-- ---- texts

-- the character of a byte: that of ASCII, or one of the last, for which the table has characters, or none
abbrev pub character_in : List ℕ → ℕ → ℕ
character_in table byte =
    if nat_lt byte 128 then byte
    else if nat_lt (byte + length table) 256 then 0xFFFD
    else slice_index table (byte + length table - 256)

-- the text that bytes stand for
abbrev pub decoded : List ℕ → List ℕ → List ℕ
decoded table bytes = encode_utf8_all (map (character_in table) bytes)
