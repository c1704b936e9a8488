pub mod SheetLines
