mod InARow
mod Serving
mod Written
