-- The record of a page, read off the pieces of its whole block tree and the title that it ends with. Source: mandoc(1), makewhatis.
use Rattle.std.specs.Prelude.{ℕ, List, map, Option}
use Rattle.page_core_base.specs.declared.page_settings.Settings.{Settings}
use Rattle.page_engine_index.specs.declared.records.Record.{Record}
use Rattle.page_engine_lines.specs.Acts.{raw_line, page_items, lines_after}
use Rattle.page_engine_lines.specs.Edges.{start_of}
use Rattle.page_roff_lines.specs.Lines.{Line, lines}
use Rattle.page_roff_source.specs.Runs.{SourceLine}
use Rattle.page_engine_records.specs.NameTexts.{name_text}
use Rattle.page_engine_records.specs.Records.{record_by}

-- a line as roff takes it: the messages of its cutting are before what it gives
abbrev pub raw : Line → SourceLine
raw line = raw_line line.number line.text line.notes

-- the text of the section NAME in the pieces of a page, if it has one: a message at its end has the number of its first line, and is no text
abbrev pub name_in : Settings → List Line → Option (List ℕ)
name_in s page = name_text (page_items (start_of s) (map raw page) 1)

-- the section of the manual of its title, once all lines came
abbrev pub section_in : Settings → List Line → List ℕ
section_in s page = (lines_after (start_of s) (map raw page)).body.header.fields.section

-- the record of a page of these lines
unfoldable pub record_of_lines : Settings → List Line → Option Record
record_of_lines s page = record_by (name_in s page) (section_in s page)

-- the record of a page by its bytes
abbrev pub page_record : Settings → List ℕ → Option Record
page_record s bytes = record_of_lines s (lines s.encoding bytes)
