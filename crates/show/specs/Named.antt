-- A text by its name (L9).
-- Assumes nothing.
use Rattle.std.specs.Prelude.{ℕ, List, []}
use Rattle.layout.specs.Kind.{Text, stream, security, source, phase, financial_status, news_id, reject_text}
use Rattle.layout.specs.Layout.{fields, Behind, nothing, groups, entries, behind, Listed, listed, unlisted, named, text_in}
use Rattle.show.specs.declared.named.Text as code_text

-- the text that the code means
abbrev pub meant : code_text.Text → Text
meant code_text.TheVariants.Stream = stream
meant code_text.TheVariants.Security = security
meant code_text.TheVariants.Source = source
meant code_text.TheVariants.Phase = phase
meant code_text.TheVariants.FinancialStatus = financial_status
meant code_text.TheVariants.NewsId = news_id
meant code_text.TheVariants.RejectText = reject_text

-- L9: a text by its name, out of the texts of a record
abbrev pub text_listed : Listed → Text → List ℕ → List ℕ
text_listed (listed m) t ts = text_in t (fields m) ts
text_listed unlisted t ts = []

-- L9: the same by the type's number
unfoldable pub text_named : ℕ → Text → List ℕ → List ℕ
text_named type t ts = text_listed (named type) t ts

-- L9: a text by its name, out of the texts of a group
abbrev pub group_text : Behind → Text → List ℕ → List ℕ
group_text nothing t ts = []
group_text (groups g) t ts = text_in t g.fields ts
group_text (entries e) t ts = []

abbrev pub group_text_listed : Listed → Text → List ℕ → List ℕ
group_text_listed (listed m) t ts = group_text (behind m) t ts
group_text_listed unlisted t ts = []

-- L9: the same by the type's number
unfoldable pub group_text_named : ℕ → Text → List ℕ → List ℕ
group_text_named type t ts = group_text_listed (named type) t ts
