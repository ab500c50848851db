-- The refusals, with the number and the words that each prints. Source: own.
use Rattle.std.specs.Prelude.{ℕ, List, codes}
use Rattle.rt_sql_statement.specs.declared.refusal.Refusal.{Refusal}
use Rattle.rt_sql_statement.specs.declared.refusal.Refusal.TheVariants.{SyntaxError, IncompleteInput, StatementTooLong, NotUtf8, NoSuchTable, TableAlreadyExists, BadColumnList, NoSuchColumn, WrongNumberOfValues, WrongType, IntegerOutOfRange, IdAlreadyTaken, MinimumAboveMaximum, TableFull, NoIdLeft, NoSuchView, ViewAlreadyExists, TableIsWatched, TooManyTablesOrViews, OutOfMemory, UnknownCommand}

abbrev pub code_of : Refusal → ℕ
code_of SyntaxError = 1
code_of IncompleteInput = 2
code_of StatementTooLong = 3
code_of NotUtf8 = 4
code_of NoSuchTable = 5
code_of TableAlreadyExists = 6
code_of BadColumnList = 7
code_of NoSuchColumn = 8
code_of WrongNumberOfValues = 9
code_of WrongType = 10
code_of IntegerOutOfRange = 11
code_of IdAlreadyTaken = 12
code_of MinimumAboveMaximum = 13
code_of TableFull = 14
code_of NoIdLeft = 15
code_of NoSuchView = 16
code_of ViewAlreadyExists = 17
code_of TableIsWatched = 18
code_of TooManyTablesOrViews = 19
code_of OutOfMemory = 20
code_of UnknownCommand = 21

abbrev pub text_of : Refusal → List ℕ
text_of SyntaxError = codes "syntax error"
text_of IncompleteInput = codes "incomplete input"
text_of StatementTooLong = codes "statement too long"
text_of NotUtf8 = codes "not UTF-8 text"
text_of NoSuchTable = codes "no such table"
text_of TableAlreadyExists = codes "table already exists"
text_of BadColumnList = codes "bad column list"
text_of NoSuchColumn = codes "no such column"
text_of WrongNumberOfValues = codes "wrong number of values"
text_of WrongType = codes "wrong type"
text_of IntegerOutOfRange = codes "integer out of range"
text_of IdAlreadyTaken = codes "id already taken"
text_of MinimumAboveMaximum = codes "minimum above maximum"
text_of TableFull = codes "table full"
text_of NoIdLeft = codes "no id left"
text_of NoSuchView = codes "no such view"
text_of ViewAlreadyExists = codes "view already exists"
text_of TableIsWatched = codes "table is watched"
text_of TooManyTablesOrViews = codes "too many tables or views"
text_of OutOfMemory = codes "out of memory"
text_of UnknownCommand = codes "unknown command"
