mod Database
mod Numbers
mod Results
